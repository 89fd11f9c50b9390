-- Arrival squares: walking from one to the next misses no move.
use Rattle.chess_rules.proofs.Chess.{Bool, IsAimed, HasNoMoveFrom, IsFirst, NamesMove, Kind, King, List, Man, Move, None, Option, Pawn, Position, RuleSet, Some, agree_below_at, along, and_from, and_parts, ap, arith, bit_at, bit_not, can_castle, cases_Bool, cond-false, cond-true, false, file_of, find, find_first, find_no, is_advance, is_arrival, is_castling, is_of_colour, is_promoting, is_promotion_right, is_pseudo_legal, is_pseudo_legal_of, is_some, is_square, is_two_files_aside, man_on, may_castle, may_arrive, or_left, or_right, per_arrival, per_origin, promotion_at, range_with_len, rank_of, reaches, reaches_as, refl, rules, same_colour-refl, same_kind, square_at, squares_same, steps_to, sym, true, w64, word, word_empty, ℕ, ◌%◌, ◌*◌, ◌+◌, ◌-◌, ◌/◌, ◌<◌, ◌==◌, ◌∙◌, ◌≡◌, ◌≤◌, not}
use Rattle.chess_rules.proofs.Pseudo.{made}
use Rattle.std.proofs.Math.Bool.{beq}

-- the words of a pawn's steps, of a king's in castling, and of the others
pub pawn_word : (x : Man) (s n : ℕ) → same_kind x.kind Pawn ≡ true → n ≡ word (is_advance x.colour s) → n ≡ word (steps_to x s)
unfolding steps_to
pawn_word x s n pawn h = h ∙ squares_same _ _ (λ t b. sym (cond-true (same_kind x.kind Pawn) _ _ pawn))

-- a king's word has the squares two files aside
pub king_word : (x : Man) (s n : ℕ) → same_kind x.kind Pawn ≡ false → same_kind x.kind King ≡ true → n ≡ word (is_two_files_aside s) → n ≡ word (steps_to x s)
unfolding steps_to
king_word x s n none king h = search (rules, cond-false, cond-true, squares_same)

-- another man's has none
pub other_word : (x : Man) (s : ℕ) → same_kind x.kind Pawn ≡ false → same_kind x.kind King ≡ false → 0 ≡ word (steps_to x s)
unfolding steps_to
other_word x s none king = search (rules, cond-false, word_empty)

-- the square on a square's file and rank
square_of : (f r t : ℕ) → t < 64 → f ≡ file_of t → r ≡ rank_of t → is_square (square_at f r) t ≡ true
square_of f r t p e h = search rules

-- a king that castles goes two squares aside
pub castling_steps : (x : Man) (m : Move) → m.to < 64 → is_castling x m ≡ true → steps_to x m.from m.to ≡ true
unfolding steps_to along
castling_steps x m small h = search rules

reaches_man : (men : List (Option Man)) (x : Man) (s t : ℕ) → man_on men s ≡ Some x → reaches men s t ≡ true → reaches_as men x.colour x.kind s t ≡ true
unfolding reaches
reaches_man men x s t here h = rw here at h

-- a move goes where its man may go
arrival_by : (rule : RuleSet) (p : Position) (m : Move) (o : Option Man) → m.to < 64 → man_on p.men m.from ≡ o → is_pseudo_legal_of rule p o m ≡ true
    → is_arrival rule p m.from m.to ≡ true
unfolding is_arrival may_arrive can_castle may_castle
arrival_by rule p m o small here h = grind (arith, and_from, and_parts, castling_steps, cond-false, cond-true, or_left, or_right, reaches_man)

-- a move that may be made goes where its man may go
pub arrival_needed : (rule : RuleSet) (p : Position) (m : Move) → m.to < 64 → is_pseudo_legal rule p m ≡ true → is_arrival rule p m.from m.to ≡ true
unfolding is_pseudo_legal
arrival_needed rule p m small h = arrival_by rule p m (man_on p.men m.from) small refl h

-- a test that can't be met fails
pub false_by : (b : Bool) → (b ≡ true → ⊥) → b ≡ false
false_by b h = grind arith

-- where its man may not go there is none
pub arrival_missing : (rule : RuleSet) (p : Position) (m : Move) → m.to < 64 → is_arrival rule p m.from m.to ≡ false → is_pseudo_legal rule p m ≡ false
arrival_missing rule p m small off = false_by (is_pseudo_legal rule p m) (λ y. let h = arrival_needed rule p m small y in cc)

-- a promotion is named exactly on the last rank
promoted : (p : Position) (x : Man) (m : Move) (o : Option Kind) → is_promotion_right p x m o ≡ true → o ≡ None → is_promoting x m.to ≡ false
promoted p x m o h e = grind (arith, cases_Bool)

unpromoted : (p : Position) (x : Man) (m : Move) (o : Option Kind) (k : Kind) → is_promotion_right p x m o ≡ true → o ≡ Some k → is_promoting x m.to ≡ true
unpromoted p x m o k h e = grind (arith, and_parts)

-- a promotion that is named elsewhere, or missing there, makes no move
pub promotion_amiss : (rule : RuleSet) (p : Position) (m : Move) (x : Man) → man_on p.men m.from ≡ Some x
    → beq (is_some m.promo) (is_promoting x m.to) ≡ false → is_pseudo_legal rule p m ≡ false
promotion_amiss rule p m x here amiss = false_by (is_pseudo_legal rule p m) (λ y.
    let right = (made rule p m x y here).promotion in
    grind (arith, promoted p x m m.promo right, unpromoted p x m m.promo))

-- with the right one a move to an arrival is aimed
pub aimed_by : (rule : RuleSet) (p : Position) (m : Move) (x : Man) → man_on p.men m.from ≡ Some x
    → beq (is_some m.promo) (is_promoting x m.to) ≡ true → is_arrival rule p m.from m.to ≡ true → IsAimed rule p m
aimed_by rule p m x here right h = record { man = x; here = here; arrival = h; promotion = grind arith }

-- on another rank than the last none may be named
pub no_promotion_here : (rule : RuleSet) (p : Position) (x : Man) (m : Move) (k : Kind) → man_on p.men m.from ≡ Some x → m.promo ≡ Some k
    → is_promoting x m.to ≡ false → is_pseudo_legal rule p m ≡ false
no_promotion_here rule p x m k here e h =
    false_by (is_pseudo_legal rule p m) (λ y. let t = unpromoted p x m m.promo k (made rule p m x y here).promotion e in cc)

promotion_missing : (rule : RuleSet) (p : Position) (x : Man) (m : Move) → man_on p.men m.from ≡ Some x → m.promo ≡ None → is_promoting x m.to ≡ true
    → is_pseudo_legal rule p m ≡ false
promotion_missing rule p x m here e h = false_by (is_pseudo_legal rule p m) (λ y. let t = promoted p x m m.promo (made rule p m x y here).promotion e in cc)

-- without a man of the side to move on the origin there is no move
pub nobody_moves : (rule : RuleSet) (p : Position) (m : Move) → man_on p.men m.from ≡ None → is_pseudo_legal rule p m ≡ false
unfolding is_pseudo_legal
nobody_moves rule p m h = ap (λ o. is_pseudo_legal_of rule p o m) h

-- from the square of an opponent's man there is no move
pub own_moves : (p : Position) (rule : RuleSet) (m : Move) (o : Option Man) → man_on p.men m.from ≡ o → is_of_colour o p.turn ≡ false
    → is_pseudo_legal rule p m ≡ false
own_moves p rule m None e h = nobody_moves rule p m e
own_moves p rule m (Some x) e h = false_by (is_pseudo_legal rule p m) (λ y. grind (arith, (made rule p m x y e).mine, same_colour-refl p.turn))

-- the first arrival whose triples are all numbered from a on, counted from their origin's first
abbrev pub arrival_from : ℕ → ℕ
arrival_from a = (a + per_arrival - 1) / per_arrival

-- two adjacent ranges of one origin without a move make one
pub from-join : (p : Position) (s z a b c : ℕ) → HasNoMoveFrom p s z a b → HasNoMoveFrom p s z b c → HasNoMoveFrom p s z a c
from-join p s z a b c x y = search rules

-- no square of the word lies between
from-missed : (p : Position) (s a b w : ℕ) → ((t : ℕ) → a / per_arrival ≤ t → per_arrival * t < b → (bit_at w t == 1) ≡ false) → HasNoMoveFrom p s w a b
from-missed p s a b w none = search rules

not_first : (n : ℕ) → 1 ≤ n → not (n == 0) ≡ true
not_first n lo = grind arith

-- the first promotion is none
pub first_none : promotion_at 0 ≡ None
unfolding promotion_at
first_none = refl

-- each promotion but the first names a kind
pub some_named : (n : ℕ) → 1 ≤ n → n < per_arrival → is_some (promotion_at n) ≡ true
unfolding promotion_at
some_named n lo hi = agree_below_at (λ k. is_some (promotion_at k)) (λ k. not (k == 0)) per_arrival n refl hi ∙ not_first n lo

-- that is, one kind
pub named_by : (o : Option Kind) → is_some o ≡ true → (k : Kind) × (o ≡ Some k)
named_by o h = grind arith

-- on another rank than the last there is no promotion
pub from-unpromoted : (p : Position) (x : Man) (s z t a : ℕ) → man_on p.men s ≡ Some x → is_promoting x t ≡ false → per_arrival * t < a
    → HasNoMoveFrom p s z a (per_arrival * t + per_arrival)
from-unpromoted p x s z t a here h lt = record {
  fails = λ rule k lo hi on.
      let some = named_by (promotion_at (k % per_arrival)) (some_named (k % per_arrival) (omega arith) (omega arith)) in
      no_promotion_here rule p x _ some.0 here some.1 (search rules);
}

-- on the last there is one
from-promoted : (p : Position) (x : Man) (s z t : ℕ) → man_on p.men s ≡ Some x → is_promoting x t ≡ true
    → HasNoMoveFrom p s z (per_arrival * t) (per_arrival * t + 1)
from-promoted p x s z t here h = record {
  fails = λ rule k lo hi on.
      let to : k / per_arrival ≡ t = omega arith in
      let first : k % per_arrival ≡ 0 = omega arith in
      promotion_missing rule p x (record { from = s; to = k / per_arrival; promo = promotion_at (k % per_arrival) }) here
      (rw first first_none) (rw to h);
}

-- up to the first target
pub from-target : (p : Position) (s start at t w : ℕ) → HasNoMoveFrom p s w start at
    → IsFirst (λ q. bit_at w q == 1) (at / per_arrival) (64 - at / per_arrival) t → HasNoMoveFrom p s w start (per_arrival * t)
from-target p s start at t w past f = search rules

-- a pawn that arrives on its last rank has no move up to the first target, nor one to that target without a
-- promotion
pub from-first : (p : Position) (x : Man) (s start at t w n : ℕ) → man_on p.men s ≡ Some x → HasNoMoveFrom p s w start at
    → find (λ q. bit_at w q == 1) (range_with_len (at / per_arrival) (64 - at / per_arrival)) ≡ Some t → is_promoting x t ≡ true → n ≡ per_arrival * t
    → HasNoMoveFrom p s w start (n + 1)
from-first p x s start at t w n here past found last e =
    from-join p s w start (per_arrival * t) (n + 1) (from-target p s start at t w past (find_first _ _ _ t found)) (rw e (from-promoted p x s w t here last))

-- up to the end, where there is none
pub from-none : (p : Position) (s start at w : ℕ) → HasNoMoveFrom p s w start at
    → find (λ q. bit_at w q == 1) (range_with_len (at / per_arrival) (64 - at / per_arrival)) ≡ None → HasNoMoveFrom p s w start per_origin
from-none p s start at w past none = grind (arith, from-join p s w start at per_origin past, from-missed p s at per_origin w, find_no (λ q. bit_at w q == 1))

-- another man than a pawn never arrives as one
pub no_pawn_arrives : (x : Man) (t : ℕ) → same_kind x.kind Pawn ≡ false → is_promoting x t ≡ false
no_pawn_arrives x t h = rw h refl

-- the triple that is found
pub named_at : (p : Position) (x : Man) (s t n w : ℕ) → man_on p.men s ≡ Some x → (bit_at w t == 1) ≡ true → n / per_arrival ≡ t
    → is_some (promotion_at (n % per_arrival)) ≡ is_promoting x t → NamesMove p s w n
named_at p x s t n w here set at named = record { man = x; here = here; inside = rw at set; promotion = rw at named }

-- the first promotion names no kind
pub none_named : (n : ℕ) → n ≡ 0 → is_some (promotion_at n) ≡ false
none_named n e = rw (e, first_none) refl

-- where none may be named it is the one without a promotion
pub unnamed_at : (p : Position) (x : Man) (s a t n w : ℕ) → man_on p.men s ≡ Some x → is_promoting x t ≡ false
    → find (λ q. bit_at w q == 1) (range_with_len a (64 - a)) ≡ Some t → n ≡ per_arrival * t → NamesMove p s w n
unnamed_at p x s a t n w here off found e =
    named_at p x s t n w here (find_first _ a (64 - a) t found).here (omega (arith, e)) (none_named (n % per_arrival) (omega (arith, e)) ∙ sym off)

-- the word of all squares has each square
pub every_square_on : (t : ℕ) → t < 64 → (bit_at (bit_not w64 0) t == 1) ≡ true
every_square_on t lt = agree_below_at (λ n. bit_at (bit_not w64 0) n == 1) (λ _. true) 64 t refl lt

-- for the word of the steps
pub ruleset step_words = (king_word, other_word, pawn_word)
