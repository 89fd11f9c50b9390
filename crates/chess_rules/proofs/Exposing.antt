-- Whether a move leaves its own king in check, decided by the attacks after it.
use Rattle.chess_rules.proofs.Chess.{DescribesMenAfter, AreOthers, DescribesMen, Bool, Colour, IsWellFormed, Kind, King, List, Man, Move, None, Option, Position, RuleSet, Some, and_from, and_left, and_parts, ap, arith, arriving_man, bit_at, capture_square, captures_are_reborn, cases_Bool, cases_eq, cond-false, cond-true, differs, eq-eqb, like_men_paralyse, attacks_like, is_attacked_by_like, false, false≢true, in_check, is_arrival_free, is_arriving_as, is_attacked, is_attacked_at, is_castling, is_man, is_of_colour, is_paralysed, is_promotion_right, is_pseudo_legal, is_simple, is_some, is_square, joined, king_after, king_square, man_on, not, not-true, not_zero, or_parts, other, own_after, position_after, reaches, refl, rules, same_colour, same_colour-refl, same_colour-true, same_kind, shared, occupancy_after, some_square, squares_not, squares_of, squares_same, subst, sym, true, word, word_empty, word_has, ℕ, ◌&&◌, ◌<◌, ◌==◌, ◌||◌, ◌∙◌, ◌≡◌}
use Rattle.chess_attacks.specs.declared.occupancy.Occupancy.{Occupancy}
use Rattle.chess_attacks.proofs.attacks.Attacking.{attacked_by}
use Rattle.chess_attacks.proofs.rays.Ends.{square_is}
use Rattle.chess_rules.proofs.Fits.{arrived, arriving_king, pawn_is_no_king, taken}
use Rattle.chess_rules.proofs.Pseudo.{IsMade, made}
use Rattle.chess_rules.proofs.Seeing.{IsCapture, IsNoKing, kept_now, king_stands, left_now, seen_after, there_now}
use Rattle.chess_rules.proofs.Blocking.{other_twice, arriving_colour, king_is, moved_plainly, other_differs, simple_after}
use Rattle.chess_rules.proofs.Returns.{moved_arrival}
use Rattle.chess_rules.proofs.Stays.{moved_sound}

-- the parts of a simple move
pub record IsSimple (rule : RuleSet) (p : Position) (x : Man) (m : Move) : Type 0 where
  pub castling : is_castling x m ≡ false
  pub rebirth : captures_are_reborn rule ≡ true → capture_square p x m ≡ None

simple_parts : (rule : RuleSet) (p : Position) (x : Man) (m : Move) → is_simple rule x m (is_some (capture_square p x m)) ≡ true → IsSimple rule p x m
simple_parts rule p x m h = grind (arith, and_parts, not-true)

-- the arriving man in a word by kind
pub arrives_as : (x : Man) (m : Move) (k : Kind) (w : ℕ) → w ≡ word (is_square (Some m.to)) → same_kind (arriving_man x m.promo).kind k ≡ true
    → w ≡ word (is_arriving_as x m k)
arrives_as x m k w h is = h ∙ squares_same _ _ (λ s b. sym (ap (λ (y : Bool). y && is_square (Some m.to) s) is))

-- the arriving man is in no word of another kind
pub arrives_otherwise : (x : Man) (m : Move) (k : Kind) → same_kind (arriving_man x m.promo).kind k ≡ false → 0 ≡ word (is_arriving_as x m k)
arrives_otherwise x m k off = word_empty (is_arriving_as x m k) (λ s b. and_left _ (is_square (Some m.to) s) off)

-- a man of the kind reaches the square
pub faced_after : (men : List (Option Man)) (c : Colour) (k : Kind) (t w : ℕ) → w ≡ word (λ s. is_man (man_on men s) c k && reaches men s t)
    → not (w == 0) ≡ some_square (λ s. is_man (man_on men s) c k && reaches men s t)
faced_after men c k t w h = ap (λ n. not (n == 0)) h ∙ not_zero (λ s. is_man (man_on men s) c k && reaches men s t)

-- paralysis by the mover's men
faced_is : (men : List (Option Man)) (c : Colour) (y : Man) (s : ℕ) → same_colour y.colour (other c) ≡ true
    → some_square (λ q. is_man (man_on men q) c y.kind && reaches men q s) ≡ is_attacked_by_like men y s
unfolding is_attacked_by_like attacks_like
faced_is men c y s side = grind (arith, same_colour-true, other_twice)

-- a king is none
pub faced_king : (king f : Bool) → king ≡ true → not king ≡ (not king && f)
faced_king king f h = (λ i. not (h i)) ∙ sym (ap (λ (k : Bool). not k && f) h)

-- an enemy man, if no king, is paralysed exactly if a mover's man of its kind reaches it
pub paralysed_by : (rule : RuleSet) (before men : List (Option Man)) (x : Man) (m : Move) (v : Occupancy) (s : ℕ) (y : Man) (b : Bool)
    → like_men_paralyse rule ≡ true → DescribesMenAfter before men x m v → is_of_colour (man_on men s) (other x.colour) ≡ true → man_on before s ≡ Some y
    → b ≡ (not (same_kind y.kind King) && some_square (λ q. is_man (man_on men q) x.colour y.kind && reaches men q s)) → b ≡ is_paralysed rule men s
unfolding is_paralysed
paralysed_by rule before men x m v s y b is are side at h = grind (arith, are.others s side, faced_is men x.colour y s)

-- outside Madrasi nobody is paralysed
pub none_paralysed : (rule : RuleSet) (men : List (Option Man)) (s : ℕ) → like_men_paralyse rule ≡ false → false ≡ is_paralysed rule men s
unfolding is_paralysed
none_paralysed rule men s off = sym (and_left (like_men_paralyse rule) _ off)

-- the man that goes and the man that is captured
pub captures_arrival : (p : Position) (x : Man) (m : Move) → is_some (man_on p.men m.to) ≡ true → is_square (capture_square p x m) m.to ≡ true
unfolding capture_square
captures_arrival p x m h = search (rules, cond-true, eq-eqb)

goes_capturing : (rule : RuleSet) (p : Position) (x : Man) (m : Move) → IsWellFormed p → IsMade rule p x m → m.to < 64
    → IsCapture p.men m.from (capture_square p x m) m.to (arriving_man x m.promo) p.turn
goes_capturing rule p x m well is small = search (rules, captures_arrival, other_differs)

-- on a free arrival stands no man of the mover's
pub free_of_own : (c : Colour) (k : Kind) (o : Option Man) → is_arrival_free c o ≡ true → is_man o c k ≡ false
free_of_own c k o h = grind (arith, and_left, not-true, and_parts)

-- a king isn't promoted
pub king_stays_king : (p : Position) (x : Man) (m : Move) (r : Option Kind) → is_promotion_right p x m r ≡ true → same_kind x.kind King ≡ true
    → arriving_man x r ≡ x
king_stays_king p x m r right king = grind (arith, and_parts, false≢true, pawn_is_no_king)

goes_without_king : (rule : RuleSet) (p : Position) (x : Man) (m : Move) → IsWellFormed p → IsMade rule p x m → m.to < 64 → same_kind x.kind King ≡ false
    → IsNoKing p.men m.from (capture_square p x m) m.to (arriving_man x m.promo) p.turn
goes_without_king rule p x m well is small other_man = record {
  small = omega (arith, small, well.size);
  here = grind (arith, is.here);
  comes = grind (arith, and_parts, arriving_king p x m m.promo is.promotion);
  arrival = free_of_own p.turn King (man_on p.men m.to) is.arrival;
  captured = λ s at. grind (arith, taken rule p x m s well is (square_is (capture_square p x m) s at));
}

-- where a king stands once a man has moved
ruleset king_moves = (goes_without_king, king_is, king_stands, king_stays_king, moved_arrival, moved_plainly, moved_sound)

-- the mover's king is on the arrival if it moved, otherwise where it was
pub king_is_after : (rule : RuleSet) (p : Position) (x : Man) (m : Move) → IsWellFormed p → IsMade rule p x m → m.to < 64 → is_castling x m ≡ false
    → king_square (arrived p x m) p.turn ≡ king_after p x m
king_is_after rule p x m well is small castling = grind (arith, and_from, cases_Bool, cond-false, cond-true, same_colour-refl, king_moves)

-- the mover is in check after a simple move exactly if that square is attacked
pub check_is : (rule : RuleSet) (p : Position) (x : Man) (m : Move) (o : Option ℕ) → IsWellFormed p → IsMade rule p x m → m.to < 64 → IsSimple rule p x m
    → king_after p x m ≡ o → in_check rule (position_after rule p m).men p.turn ≡ is_attacked_at rule (arrived p x m) o (other p.turn)
unfolding in_check
check_is rule p x m o well is small simple king = search (rules, king_is_after, simple_after)

-- without a king the mover isn't in check
pub no_king_exposed : (rule : RuleSet) (p : Position) (x : Man) (m : Move) → IsWellFormed p → is_pseudo_legal rule p m ≡ true → m.to < 64
    → man_on p.men m.from ≡ Some x
    → is_simple rule x m (is_some (capture_square p x m)) ≡ true → king_after p x m ≡ None → false ≡ in_check rule (position_after rule p m).men p.turn
no_king_exposed rule p x m well may small here simple king =
    sym (check_is rule p x m None well (made rule p m x may here) small (simple_parts rule p x m simple) king)

-- the men of either side after the move
own_elsewhere : (mine o a k b : Bool) → o ≡ false → a ≡ false → b ≡ false → (((mine && not o) && not a) || (k && b)) ≡ mine
own_elsewhere mine o a k b p q h = grind arith

own_gone : (mine o a k b : Bool) → (a || o) ≡ true → b ≡ false → (((mine && not o) && not a) || (k && b)) ≡ false
own_gone mine o a k b p q = grind arith

own_there : (mine o a k b : Bool) → mine ≡ false → b ≡ true → (((mine && not o) && not a) || (k && b)) ≡ k
own_there mine o a k b p q = grind arith

ruleset own_cases = (own_elsewhere, own_gone, own_there)

own_on : (rule : RuleSet) (p : Position) (x : Man) (m : Move) (k : Kind) (s : ℕ) → IsWellFormed p → IsMade rule p x m → m.to < 64
    → (((is_man (man_on p.men s) x.colour k && not (is_square (capture_square p x m) s)) && not (is_square (Some m.from) s)) || is_arriving_as x m k s)
    ≡ is_man (man_on (arrived p x m) s) x.colour k
own_on rule p x m k s well is small =
    let gone = cases_Bool (is_square (Some m.from) s || is_square (capture_square p x m) s) in
    let there = there_now p.men m.from (capture_square p x m) m.to (arriving_man x m.promo) (omega (arith, small, well.size)) in
    let free = free_of_own p.turn k (man_on p.men m.to) is.arrival in
    let colour = arriving_colour x m.promo in
    grind (arith, cases_eq s m.to, gone, there, left_now, kept_now, colour, same_colour-refl, free, is.mine, own_cases, or_parts, differs, eq-eqb)

others_on : (rule : RuleSet) (p : Position) (x : Man) (m : Move) (s : ℕ) → IsWellFormed p → IsMade rule p x m → m.to < 64
    → is_of_colour (man_on (arrived p x m) s) (other x.colour) ≡ true → man_on (arrived p x m) s ≡ man_on p.men s
others_on rule p x m s well is small side =
    let gone = cases_Bool (is_square (Some m.from) s || is_square (capture_square p x m) s) in
    grind (arith, cases_eq s m.to, gone, there_now, left_now, kept_now, arriving_colour, other_differs)

own_words : (rule : RuleSet) (p : Position) (x : Man) (m : Move) (k : Kind) → IsWellFormed p → IsMade rule p x m → m.to < 64
    → own_after p.men (occupancy_after p.men m.from (capture_square p x m) m.to) x m k ≡ squares_of (arrived p x m) x.colour k
unfolding squares_of
own_words rule p x m k well is small =
    joined _ _ _ _ (shared _ _ _ _ (shared _ _ _ _ refl (squares_not _)) (squares_not _)) refl ∙ squares_same _ _ (λ s b. own_on rule p x m k s well is small)

are_arrived : (rule : RuleSet) (p : Position) (x : Man) (m : Move) → IsWellFormed p → IsMade rule p x m → m.to < 64
    → DescribesMenAfter p.men (arrived p x m) x m (occupancy_after p.men m.from (capture_square p x m) m.to)
are_arrived rule p x m well is small = search (rules, seen_after, goes_capturing, own_words, others_on)

-- a square is attacked after a move exactly if a man of the word of those that reach it isn't paralysed
pub attacked_after : (rule : RuleSet) (men : List (Option Man)) (c : Colour) (t w : ℕ) (b : Bool)
    → w ≡ word (λ s. is_of_colour (man_on men s) (other c) && reaches men s t)
    → (AreOthers men c w → b ≡ some_square (λ s. bit_at w s == 1 && not (is_paralysed rule men s))) → b ≡ is_attacked rule men t (other c)
attacked_after rule men c t w b are free = search (rules, and_parts, word_has, attacked_by, are, free)

-- the mover is in check exactly if the king's square is attacked then
pub exposed_is : (rule : RuleSet) (p : Position) (x : Man) (m : Move) (k : ℕ) (b : Bool) → IsWellFormed p → is_pseudo_legal rule p m ≡ true → m.to < 64
    → man_on p.men m.from ≡ Some x → is_simple rule x m (is_some (capture_square p x m)) ≡ true → king_after p x m ≡ Some k
    → ((men : List (Option Man)) → DescribesMenAfter p.men men x m (occupancy_after p.men m.from (capture_square p x m) m.to)
    → DescribesMen p.men men (other x.colour) (occupancy_after p.men m.from (capture_square p x m) m.to) → b ≡ is_attacked rule men k (other x.colour))
    → b ≡ in_check rule (position_after rule p m).men p.turn
exposed_is rule p x m k b well may small here simple king attacked =
    let is : IsMade rule p x m = made rule p m x may here in
    let parts : IsSimple rule p x m = simple_parts rule p x m simple in
    attacked (arrived p x m) (are_arrived rule p x m well is small)
    (subst (λ (c : Colour). DescribesMen p.men (arrived p x m) (other c) (occupancy_after p.men m.from (capture_square p x m) m.to)) (sym is.mine)
    (seen_after p.men m.from (capture_square p x m) m.to (arriving_man x m.promo) p.turn (goes_capturing rule p x m well is small)))
    ∙ ap (λ (c : Colour). is_attacked rule (arrived p x m) k (other c)) is.mine
    ∙ sym (check_is rule p x m (Some k) well is small parts king)
