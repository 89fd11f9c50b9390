-- Sets of moves: what is put in is held, and a loop over the moves of a position fills a set.
use Rattle.pop_tries.proofs.Words.{Bool, IsWellFormed, Move, Option, Position, RuleSet, [], and_parts, arith, eqb, false, false≢true, in_cases, inl, inr, moves_are_the_legal_moves, none_in_nil, refl, subst, sym, true, ℕ, ◌&&◌, ◌<◌, ◌∙◌, ◌∷◌, ◌≡◌}
use Rattle.chess_core.proofs.Basics.{bit_at, bit_at_set_other, bit_at_set_same, bit_or, cases_eq, w64, ◌%◌, ◌*◌, ◌^◌}
use Rattle.chess_rules.specs.Legal.{is_legal}
use Rattle.chess_rules.specs.ties.Places.{moves_after}
use Rattle.pop_battle.proofs.Boards.{after_start}
use Rattle.pop_tries.specs.declared.move_set.MoveSet.{MoveSet}
use Rattle.pop_tries.specs.ties.MoveSets.{HoldAll, HoldBefore, may_be}

-- a bit that is set, and one that was
put_bit : (a s : ℕ) → s < 64 → bit_at (bit_or a (1 * 2 ^ s % 2 ^ 64)) s ≡ 1
put_bit a s p = bit_at_set_same w64 a s p

kept_bit : (a s t : ℕ) → s < 64 → bit_at a t ≡ 1 → bit_at (bit_or a (1 * 2 ^ s % 2 ^ 64)) t ≡ 1
kept_bit a s t p one = elim (cases_eq t s) [
  | inl same ↦ rw same (put_bit a s p)
  | inr other ↦ bit_at_set_other w64 a s p t other ∙ one
]

-- a move that is put in is held
pub put_in : (origins arrivals from to : ℕ) → from < 64 → to < 64
    → (eqb (bit_at (bit_or origins (1 * 2 ^ from % 2 ^ 64)) from) 1 && eqb (bit_at (bit_or arrivals (1 * 2 ^ to % 2 ^ 64)) to) 1) ≡ true
put_in origins arrivals from to p q = rw (put_bit origins from p, put_bit arrivals to q) refl

is_one : (n : ℕ) → eqb n 1 ≡ true → n ≡ 1
is_one n e = grind arith

-- and what was held still is
pub kept_in : (origins arrivals from to a b : ℕ) → from < 64 → to < 64 → (eqb (bit_at origins a) 1 && eqb (bit_at arrivals b) 1) ≡ true
    → (eqb (bit_at (bit_or origins (1 * 2 ^ from % 2 ^ 64)) a) 1 && eqb (bit_at (bit_or arrivals (1 * 2 ^ to % 2 ^ 64)) b) 1) ≡ true
kept_in origins arrivals from to a b p q h =
    let w = and_parts _ _ h in
    rw (kept_bit origins from a p (is_one _ w.0), kept_bit arrivals to b q (is_one _ w.1)) refl

-- for a set with one more move
pub ruleset putting = (put_in, kept_in)

module _ (rule : RuleSet) (p : Position) (test : Move → Bool) where
  -- before the first move all are to come
  pub held_at_start : (set : Option MoveSet) (place : ℕ) → place ≡ 0 → HoldBefore rule p test set place
  held_at_start set place e m c t = inr (rw (e, after_start rule p) c)

  -- the next move is put in if it meets the test
  pub held_on : (old new : Option MoveSet) (place next : ℕ) (m : Move) → moves_after rule p place ≡ m ∷ moves_after rule p next
      → HoldBefore rule p test old place → (test m ≡ true → may_be new m ≡ true) → ((k : Move) → may_be old k ≡ true → may_be new k ≡ true)
      → HoldBefore rule p test new next
  held_on old new place next m e held put kept k c t = elim (held k c t) [
    | inl h ↦ inl (kept k h)
    | inr later ↦ elim (in_cases m (moves_after rule p next) k (rw e at later)) [
      | inl same ↦ inl (subst (λ j. may_be new j ≡ true) same (put (subst (λ j. test j ≡ true) (sym same) t)))
      | inr rest ↦ inr rest
    ]
  ]

  -- after the last move none is to come
  pub held_at_end : (set : Option MoveSet) (place : ℕ) → moves_after rule p place ≡ [] → HoldBefore rule p test set place → HoldAll rule p test set
  held_at_end set place e held m c t = elim (held m c t) [
    | inl h ↦ h
    | inr later ↦ absurd (none_in_nil m (rw e at later))
  ]

  -- a move that isn't held fails
  pub not_held : (set : Option MoveSet) (m : Move) → HoldAll rule p test set → IsWellFormed p → is_legal rule p m ≡ true → may_be set m ≡ false
      → test m ≡ false
  not_held set m held well legal out = by (test m) refl
    where
      by : (b : Bool) → test m ≡ b → test m ≡ false
      by false e = e
      by true e = absurd (false≢true (sym out ∙ held m ((moves_are_the_legal_moves rule p m well).1 legal) e))

-- for a loop that fills a set
pub ruleset filling = (held_at_start, held_on, held_at_end)
