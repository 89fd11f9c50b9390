-- Refutations counted in parts: forcing replies, and the others.
use Rattle.chess_rules.proofs.Between.{after_cut}
use Rattle.chess_rules.specs.Legal.{is_legal}
use Rattle.chess_rules.specs.ties.Places.{moves_after, moves_between, place_of}
use Rattle.pop_battle.proofs.Boards.{after_start}
use Rattle.std.proofs.lemmas.List.Elements.{filter-append}
use Rattle.pop_tries.proofs.Words.{IsWellFormed, subst, cases_lt, eqb, inl, inr, length-append, nat_tests, sym, Bool, Some, false, true, List, Move, Position, RuleSet, [], arith, filter, length, legal_moves, not, refl, refutations, ℕ, ◌&&◌, ◌+◌, ◌-◌, ◌<◌, ◌∙◌, ◌∷◌, ◌≡◌, ◌≢◌, ◌≤◌}
use Rattle.std.proofs.Common.{min}
use Rattle.pop_tries.specs.declared.contest.Contest.{Contest}
use Rattle.pop_tries.specs.declared.replies.Counted.TheVariants.{All, Forcing, Others}
use Rattle.pop_tries.specs.ties.Contests.{game_in}
use Rattle.pop_tries.specs.ties.FewPlaces.{IsPlaceOf}
use Rattle.pop_tries.specs.ties.FirstMoves.{AreRefuting, IsRefutedAt, is_forcing, refutes, refutes_among}
use Rattle.pop_tries.specs.declared.move_set.MoveSet.{MoveSet}
use Rattle.pop_tries.specs.declared.refuting.Refuting.{Refuting}
use Rattle.pop_tries.proofs.FewPlaces.{place_is}
use Rattle.pop_tries.specs.ties.MoveSets.{HoldAll, may_hold}

-- what meets a test is what also meets another, and what doesn't
parts : (c r : Move → Bool) (ms : List Move)
    → length (filter (λ d. c d && r d) ms) + length (filter (λ d. not (c d) && r d) ms) ≡ length (filter r ms)
parts c r [] = refl
parts c r (m ∷ ms) = grind (arith, parts c r ms)

-- places that the code finds different
unequal : (a b : ℕ) → eqb a b ≡ false → a ≢ b
unequal a b differ same = grind (arith, nat_tests)

-- the triples up to two places that differ
module _ (rule : RuleSet) (p : Position) (test : Move → Bool) where
  abbrev meeting : ℕ → ℕ → ℕ
  meeting a b = length (filter test (moves_between rule p a b))

  abbrev meeting_after : ℕ → ℕ
  meeting_after a = length (filter test (moves_after rule p a))

  cut_after : (a b : ℕ) → a ≤ b → meeting_after a ≡ meeting a b + meeting_after b
  cut_after a b le = rw (after_cut (is_legal rule p) a b le, filter-append test (moves_between rule p a b) (moves_after rule p b))
      (length-append (filter test (moves_between rule p a b)) (filter test (moves_after rule p b)))

  two_in_order : (a b : ℕ) → a < b → meeting (a - 1) a ≡ 1 → meeting (b - 1) b ≡ 1 → 2 ≤ length (filter test (legal_moves rule p))
  two_in_order a b lt one two =
      let whole : meeting_after 0 ≡ length (filter test (legal_moves rule p)) = rw (after_start rule p) refl in
      omega (
        arith,
        whole,
        one,
        two,
        cut_after 0 (a - 1) (omega arith),
        cut_after (a - 1) a (omega arith),
        cut_after a (b - 1) (omega (arith, lt)),
        cut_after (b - 1) b (omega arith),
      )

  -- with moves at two places that meet the test, at least two moves meet it
  pub two_meet : (a b : ℕ) → a ≢ b → meeting (a - 1) a ≡ 1 → meeting (b - 1) b ≡ 1 → 2 ≤ length (filter test (legal_moves rule p))
  two_meet a b differ one two = elim (cases_lt a b) [
    | inl before ↦ two_in_order a b before one two
    | inr after ↦ elim (cases_lt b a) [
      | inl later ↦ two_in_order b a later two one
      | inr same ↦ absurd (differ (omega (arith, after, same)))
    ]
  ]

module _ (rule : RuleSet) (contest : Contest) (q : Position) where
  -- a reply that refutes does so at its place
  pub refuted_at : (place : ℕ) (by : Move) → IsPlaceOf place by → refutes rule contest q by ≡ true → IsRefutedAt rule contest q place
  refuted_at place by on r m there = subst (λ k. refutes rule contest q k ≡ true) (sym on.move ∙ there.move) r

  -- at no place none refutes
  pub refuted_nowhere : (place : ℕ) → place ≡ 0 → IsRefutedAt rule contest q place
  refuted_nowhere place e m there = absurd (omega (arith, e, there.some))

  -- what a count says of the refutations
  pub refuting_is_kept : (refuting : Refuting) (moves : MoveSet) (last : ℕ) → refuting ≡ record { moves = moves; last = last }
      → HoldAll rule q (refutes rule contest q) (Some moves) → IsRefutedAt rule contest q last → AreRefuting rule contest q refuting
  refuting_is_kept refuting moves last e held at = rw e (held, at)

  -- the reply at a place that is known
  pub refuted_by : (refuting : Refuting) (place : ℕ) (by : Move) → AreRefuting rule contest q refuting → IsWellFormed q → is_legal rule q by ≡ true
      → place ≡ place_of (Some by) → place ≡ refuting.last → true ≡ refutes rule contest q by
  refuted_by refuting place by known well legal e same =
      sym (known.1 by (subst (λ n. IsPlaceOf n by) same (place_is rule q by place well legal e)))

  -- two replies refute
  pub two_refute : (a b : ℕ) → eqb a b ≡ false → length (filter (refutes rule contest q) (moves_between rule q (a - 1) a)) ≡ 1
      → length (filter (refutes rule contest q) (moves_between rule q (b - 1) b)) ≡ 1
      → 2 ≤ length (refutations contest.battle (game_in rule contest) contest.stipulation.n q)
  two_refute a b differ one two = two_meet rule q (refutes rule contest q) a b (unequal a b differ) one two

  abbrev all : ℕ
  all = length (refutations contest.battle (game_in rule contest) contest.stipulation.n q)

  abbrev forced : ℕ
  forced = length (filter (refutes_among rule contest Forcing q) (legal_moves rule q))

  abbrev others : ℕ
  others = length (filter (refutes_among rule contest Others q) (legal_moves rule q))

  both : forced + others ≡ all
  both = parts (is_forcing rule q) (refutes rule contest q) (legal_moves rule q)

  -- all at once
  pub counted_at_once : (count most : ℕ) → count ≡ min (0 + length (filter (refutes_among rule contest All q) (legal_moves rule q))) (most + 1)
      → count ≡ min all (most + 1)
  counted_at_once count most e =
      let same : length (filter (refutes_among rule contest All q) (legal_moves rule q)) ≡ all = refl in omega (arith, e, same)

  -- the forcing replies are too many
  pub too_many_forced : (count most : ℕ) → count ≡ min (0 + forced) (most + 1) → most < count → count ≡ min all (most + 1)
  too_many_forced count most e more = omega (arith, both, e, more)

  -- the other replies too
  pub counted_in_parts : (before count most : ℕ) → before ≡ min (0 + forced) (most + 1) → before ≤ most
      → count ≡ min (before + others) (most + 1) → count ≡ min all (most + 1)
  counted_in_parts before count most e few f = omega (arith, both, e, few, f)

  -- forcing replies that refute are held, and then the others that do
  pub held_in_parts : (first both : MoveSet) → HoldAll rule q (refutes_among rule contest Forcing q) (Some first)
      → ((m : Move) → may_hold first m ≡ true → may_hold both m ≡ true)
      → HoldAll rule q (refutes_among rule contest Others q) (Some both) → HoldAll rule q (refutes rule contest q) (Some both)
  held_in_parts first both one kept two m c r = by (is_forcing rule q m) refl
    where
      by : (b : Bool) → is_forcing rule q m ≡ b → may_hold both m ≡ true
      by true e = kept m (one m c (rw (e, r) refl))
      by false e = two m c (rw (e, r) refl)

-- for a count in parts
pub ruleset counting_parts = (refuted_nowhere, counted_at_once, too_many_forced, counted_in_parts, held_in_parts)
