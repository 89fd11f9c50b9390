-- The bitboards of the squares to which a man may go.
use Rattle.chess_rules.proofs.Chess.{Black, Bool, Colour, IsAimed, IsFirst, Kind, King, List, Man, Move, None, Option, Pawn, Position, RuleSet, Some, White, agree_below_at, along, and_from, and_left, and_parts, ap, arith, bit_and, bit_at, bit_not, bit_or, can_go, cases_Bool, cond-false, cond-true, eqb-true, false, false≢true, find, find_no, forward, has_unmoved, inl, inr, is_advance, is_arrival, is_arrival_free, is_arrival_of, is_paralysed, is_pseudo_legal, is_some, is_square, joined, leaps, list_any, man_on, may_arrive, may_promote, not, not-true, or_cases, or_left, or_right, other, pawn_steps_to, queen_steps, range_with_len, rank_of, reaches, reaches_as, refl, rules, same_Bool, same_colour, same_kind, second_rank, shared, side_of, squares_both, squares_not, squares_of, squares_same, steps_to, sym, true, w64, word, word_empty, word_has, ℕ, ◌&&◌, ◌+◌, ◌/◌, ◌<◌, ◌==◌, ◌||◌, ◌∙◌, ◌≡◌}
use Rattle.chess_rules.proofs.Pseudo.{king_is_no_pawn}

-- the squares with neither a man of the mover nor an enemy king
pub free_word : (men : List (Option Man)) (c : Colour) (a b : ℕ) → a ≡ side_of men c → b ≡ squares_of men (other c) King
    → bit_not w64 (bit_or a b) ≡ word (λ t. is_arrival_free c (man_on men t))
unfolding side_of squares_of
free_word men c a b h i = ap (bit_not w64) (joined _ _ _ _ h i) ∙ squares_not _ ∙ squares_same _ _ (λ t less. grind arith)

-- a king that has moved doesn't castle
pub castling_none : (u : Bool) (x : Man) (s : ℕ) → u ≡ false → 0 ≡ word (λ t. u && steps_to x s t)
castling_none u x s h = word_empty (λ t. u && steps_to x s t) (λ t b. and_left u _ h)

-- a test of the square, if there is one
abbrev holds_on : (ℕ → Bool) → Option ℕ → Bool
holds_on f None = true
holds_on f (Some u) = f u

on_it : (f : ℕ → Bool) (o : Option ℕ) (t : ℕ) → holds_on f o ≡ true → is_square o t ≡ true → f t ≡ true
on_it f o t h on = search (rules, false≢true, eqb-true, h, on)

-- one square ahead is next to the pawn; two are not, and the square halfway there is the one ahead
abbrev is_next : ℕ → ℕ → Bool
is_next s t = list_any (leaps s t) queen_steps

abbrev is_after_next : Colour → ℕ → ℕ → Bool
is_after_next c s t = not (is_next s t) && is_square (along s (forward c) 1) ((s + t) / 2)

abbrev steps_so : Colour → ℕ → Bool
steps_so c s = holds_on (is_next s) (along s (forward c) 1) && holds_on (is_after_next c s) (along s (forward c) 2)

steps_are : (c : Colour) (s : ℕ) → s < 64 → steps_so c s ≡ true
unfolding along leaps
steps_are White s p = agree_below_at (steps_so White) (λ _. true) 64 s refl p
steps_are Black s p = agree_below_at (steps_so Black) (λ _. true) 64 s refl p

two_ahead : (c : Colour) (s t : ℕ) → s < 64 → is_square (along s (forward c) 2) t ≡ true → is_after_next c s t ≡ true
two_ahead c s t p two =
    on_it (is_after_next c s) (along s (forward c) 2) t (and_parts (holds_on (is_next s) (along s (forward c) 1)) _ (steps_are c s p)).1 two

one_near : (c : Colour) (s t : ℕ) → s < 64 → t < 64 → is_square (along s (forward c) 1) t ≡ (is_advance c s t && list_any (leaps s t) queen_steps)
one_near c s t p q =
    let next = and_parts (holds_on (is_next s) (along s (forward c) 1)) _ (steps_are c s p) in
    grind (arith, on_it (is_next s) (along s (forward c) 1) t next.0, two_ahead c s t p, not-true, and_parts)

half_one : (c : Colour) (s t : ℕ) → s < 64 → t < 64 → is_square (along s (forward c) 2) t ≡ true → is_square (along s (forward c) 1) ((s + t) / 2) ≡ true
half_one c s t p q h = (and_parts (not (is_next s t)) _ (two_ahead c s t p h)).1

one_is : (o : Option ℕ) (t u : ℕ) → is_square o t ≡ true → is_square o u ≡ true → t ≡ u
one_is o t u h i = grind (arith, eqb-true)

-- the squares to which a pawn steps: `a` one and two ahead, `o` with men, `k` next to it
module _ (p : Position) (x : Man) (s : ℕ) (small : s < 64) (a o k : ℕ) (advances : a ≡ word (is_advance x.colour s))
    (occupied : o ≡ word (λ t. is_some (man_on p.men t))) (near : k ≡ word (λ t. list_any (leaps s t) queen_steps)) where
  abbrev ahead : ℕ → Bool
  ahead t = is_advance x.colour s t && not (is_some (man_on p.men t))

  abbrev next : ℕ → Bool
  next t = ahead t && list_any (leaps s t) queen_steps

  ahead_word : bit_and a (bit_not w64 o) ≡ word ahead
  ahead_word = search (rules, squares_both, squares_not)

  next_word : bit_and (bit_and a (bit_not w64 o)) k ≡ word next
  next_word = (λ j. bit_and (ahead_word j) (near j)) ∙ squares_both ahead (λ t. list_any (leaps s t) queen_steps)

  next_of : (t : ℕ) → t < 64 → is_square (along s (forward x.colour) 1) t ≡ true → not (is_some (man_on p.men t)) ≡ true → next t ≡ true
  next_of t lt one free = search (rules, and_from, and_parts, one_near)

  one_of : (t : ℕ) → t < 64 → next t ≡ true → is_square (along s (forward x.colour) 1) t ≡ true
  one_of t lt h = search (rules, and_from, and_parts, one_near)

  -- where no free square is next, the pawn steps nowhere
  pub goes-blocked : find (λ q. bit_at (bit_and (bit_and a (bit_not w64 o)) k) q == 1) (range_with_len 0 64) ≡ None → 0 ≡ word (pawn_steps_to p x s)
  goes-blocked none =
      let off = find_no (λ q. bit_at (bit_and (bit_and a (bit_not w64 o)) k) q == 1) 0 64 in
      let has = word_has next (bit_and (bit_and a (bit_not w64 o)) k) in
      word_empty (pawn_steps_to p x s) (λ t lt.
      let one = half_one x.colour s t small lt in
      let half : ℕ = (s + t) / 2 in
      grind (arith, and_parts, or_cases, off t none, has t next_word lt, next_of t lt, off half none, has half next_word, next_of half, one))

  -- where it is free, a pawn on its second rank steps to what is free of both
  pub goes-twice : (u : ℕ) → IsFirst (λ q. bit_at (bit_and (bit_and a (bit_not w64 o)) k) q == 1) 0 64 u → (rank_of s == second_rank x.colour) ≡ true
      → bit_and a (bit_not w64 o) ≡ word (pawn_steps_to p x s)
  goes-twice u first second = ahead_word ∙ squares_same ahead (pawn_steps_to p x s) (λ t lt. same_Bool (ahead t) (pawn_steps_to p x s t) (onto t lt)
      (search (rules, and_parts, and_from, or_cases, or_left, or_right)))
    where
      onto : (t : ℕ) → t < 64 → ahead t ≡ true → pawn_steps_to p x s t ≡ true
      onto t lt h =
          let n = and_parts (is_advance x.colour s t) (not (is_some (man_on p.men t))) h in
          let small_u : u < 64 = omega (arith, first.high) in
          let on : next u ≡ true = sym (word_has next (bit_and (bit_and a (bit_not w64 o)) k) u next_word small_u) ∙ first.here in
          and_from _ _ n.1 (elim (or_cases (is_square (along s (forward x.colour) 1) t) (is_square (along s (forward x.colour) 2) t) n.0) [
            | inl one ↦ or_left (is_square (along s (forward x.colour) 1) t) _ one
            | inr two ↦
                let same : (s + t) / 2 ≡ u = one_is (along s (forward x.colour) 1) ((s + t) / 2) u (half_one x.colour s t small lt two) (one_of u small_u on) in
                grind (arith, same, on, two, second, and_parts)
          ])

  -- from another rank it steps to the next one alone
  pub goes-once : (rank_of s == second_rank x.colour) ≡ false → bit_and (bit_and a (bit_not w64 o)) k ≡ word (pawn_steps_to p x s)
  goes-once none = next_word ∙ squares_same next (pawn_steps_to p x s) (λ t lt. same_Bool (next t) (pawn_steps_to p x s t)
      (search (rules, and_parts, and_from, or_left, one_of)) (search (rules, and_parts, or_cases, next_of)))

-- the squares to which a man goes
pub pawn_ways : (p : Position) (x : Man) (s r o y g : ℕ) → same_kind x.kind Pawn ≡ true → r ≡ word (λ t. reaches_as p.men x.colour x.kind s t)
    → o ≡ word (λ t. is_some (man_on p.men t)) → y ≡ word (λ t. is_square p.crossed t) → g ≡ word (pawn_steps_to p x s)
    → bit_or (bit_and r (bit_or o y)) g ≡ word (may_arrive p x s)
unfolding may_arrive
pawn_ways p x s r o y g pawn hr ho hy hg = joined _ _ _ _ (shared _ _ _ _ hr (joined _ _ _ _ ho hy)) hg ∙ squares_same _ _ (λ t b. sym (cond-true _ _ _ pawn))

-- other men go where they reach, and an unmoved king two squares aside too
pub other_ways : (p : Position) (x : Man) (s r g : ℕ) → same_kind x.kind Pawn ≡ false → r ≡ word (λ t. reaches_as p.men x.colour x.kind s t)
    → g ≡ word (λ t. has_unmoved p.unmoved s && steps_to x s t) → bit_or r g ≡ word (may_arrive p x s)
unfolding may_arrive
other_ways p x s r g none hr hg = joined _ _ _ _ hr hg ∙ squares_same _ _ (λ t b. sym (cond-false _ _ _ none))

-- the squares to which the man on a square may go
pub arrivals_nobody : (rule : RuleSet) (p : Position) (s : ℕ) → man_on p.men s ≡ None → 0 ≡ word (is_arrival rule p s)
unfolding is_arrival
arrivals_nobody rule p s h = word_empty (is_arrival rule p s) (λ t b. ap (λ o. is_arrival_of rule p o s t) h)

-- an enemy man on it goes nowhere
pub arrivals_other : (rule : RuleSet) (p : Position) (x : Man) (s : ℕ) → man_on p.men s ≡ Some x → same_colour x.colour p.turn ≡ false
    → 0 ≡ word (is_arrival rule p s)
unfolding is_arrival
arrivals_other rule p x s here h = word_empty (is_arrival rule p s) (λ t b. rw (here, h) refl)

-- a paralysed man goes nowhere
pub arrivals_paralysed : (rule : RuleSet) (p : Position) (x : Man) (s : ℕ) → man_on p.men s ≡ Some x → same_colour x.colour p.turn ≡ true
    → is_paralysed rule p.men s ≡ true → 0 ≡ word (is_arrival rule p s)
unfolding is_arrival
arrivals_paralysed rule p x s here mine h = word_empty (is_arrival rule p s) (λ t b. rw (here, mine, h) refl)

-- any other goes where its ways lead to a free arrival
pub arrivals_some : (rule : RuleSet) (p : Position) (x : Man) (s f g : ℕ) → man_on p.men s ≡ Some x → same_colour x.colour p.turn ≡ true
    → is_paralysed rule p.men s ≡ false → f ≡ word (λ t. is_arrival_free p.turn (man_on p.men t)) → g ≡ word (may_arrive p x s)
    → bit_and f g ≡ word (is_arrival rule p s)
unfolding is_arrival
arrivals_some rule p x s f g here mine free hf hg = shared _ _ _ _ hf hg ∙ squares_same _ _ (λ t less. rw (here, mine, free) refl)

-- a move that goes where its man may go
pub may_go_aimed : (rule : RuleSet) (p : Position) (x : Man) (m : Move) → man_on p.men m.from ≡ Some x → is_arrival rule p m.from m.to ≡ true
    → may_arrive p x m.from m.to ≡ true
unfolding is_arrival
may_go_aimed rule p x m here h = search (rules, and_parts)

-- a man that is neither pawn nor king goes only where it reaches
pub no_steps : (x : Man) (s t : ℕ) (a u : Bool) → same_kind x.kind Pawn ≡ false → same_kind x.kind King ≡ false → (a || (u && steps_to x s t)) ≡ true → a ≡ true
unfolding steps_to
no_steps x s t a u none piece h = search (rules, and_parts, cond-false, or_cases)

-- where a man may go it goes by the rules, an unmoved king apart
pub goes_on : (rule : RuleSet) (p : Position) (x : Man) (m : Move) → man_on p.men m.from ≡ Some x → may_arrive p x m.from m.to ≡ true
    → (same_kind x.kind King && has_unmoved p.unmoved m.from) ≡ false → true ≡ can_go rule p x m
unfolding may_arrive reaches
goes_on rule p x m here h free = grind (arith, cases_Bool, and_from, and_parts, cond-true, or_cases, or_left, or_right, cond-false, no_steps, king_is_no_pawn)

-- an aimed move with a promotion is pseudo-legal exactly if this promotion is allowed
pub aimed_promotion : (rule : RuleSet) (p : Position) (m : Move) (k : Kind) → IsAimed rule p m → m.promo ≡ Some k → may_promote p k ≡ is_pseudo_legal rule p m
unfolding may_arrive reaches is_arrival is_pseudo_legal
aimed_promotion rule p m k a e = grind (arith, and_parts, and_from, cond-true, or_cases, or_left, or_right, may_go_aimed rule p a.man m a.here a.arrival)

-- an aimed move without a promotion is pseudo-legal exactly if the man goes so
pub aimed_plain : (rule : RuleSet) (p : Position) (m : Move) (x : Man) → IsAimed rule p m → m.promo ≡ None → man_on p.men m.from ≡ Some x
    → can_go rule p x m ≡ is_pseudo_legal rule p m
unfolding is_arrival is_pseudo_legal
aimed_plain rule p m x a e here = grind (arith, and_parts)
