-- What the count of a first move's refutations says: whether it is a key, and whether it may be a try.
use Rattle.pop_tries.proofs.Words.{List, Some, ap, position_after, ◌⊎◌, Bool, Contains, in_filter, legal_moves, none_in_nil, subst, Move, Position, RuleSet, arith, cases_lt, chess_passing, eqb, false, false≢true, inl, inr, None, Option, keeps_win, length, nat_le, nat_tests, refl, refutations, sym, true, ℕ, ◌+◌, ◌<◌, ◌∙◌, ◌≡◌, ◌≢◌, ◌≤◌}
use Rattle.std.proofs.Common.{min}
use Rattle.std.proofs.lemmas.List.{get_or-replicate}
use Rattle.std.specs.Prelude.{IfSome}
use Rattle.pop_tries.specs.declared.kept_tries.Candidates.{Candidates}
use Rattle.pop_tries.specs.declared.kept_tries.KeptTry.{KeptTry}
use Rattle.pop_tries.specs.declared.contest.Contest.{Contest}
use Rattle.pop_tries.specs.declared.first_moves.Group.{Group}
use Rattle.pop_tries.specs.declared.first_moves.Group.TheVariants.{Keys, Tries}
use Rattle.pop_tries.specs.declared.move_set.MoveSet.{MoveSet}
use Rattle.pop_tries.specs.declared.refuting.Refuting.{Refuting}
use Rattle.pop_tries.proofs.Counts.{refuted_nowhere}
use Rattle.pop_tries.specs.ties.MoveSets.{HoldAll, no_moves, nothing_refuting}
use Rattle.pop_tries.proofs.MoveSets.{held_at_start}
use Rattle.pop_tries.specs.ties.Contests.{game_in}
use Rattle.pop_tries.specs.ties.Candidates.{candidates_of, no_try, none_kept, try_at}
use Rattle.pop_tries.specs.ties.FewPlaces.{IsPlaceOf}
use Rattle.pop_tries.specs.ties.FirstMoves.{AreCandidates, AreKept, AreRefuting, IsKept, IsKnownTry, belongs, is_try_after, refutes}
use Rattle.pop_tries.proofs.Contests.{key_unrefuted, not_zero, refuted_is_no_key, try_by_count, try_by_none}
use Rattle.pop_tries.proofs.theorems.Refutations.{no_key_is_a_try}

module _ (rule : RuleSet) (contest : Contest) (q : Position) where
  abbrev all : ℕ
  all = length (refutations contest.battle (game_in rule contest) contest.stipulation.n q)

  abbrev won : Bool
  won = keeps_win contest.battle (game_in rule contest) contest.stipulation.n q

  -- where none may refute there is no try
  pub none_tried : (most : ℕ) (b : Bool) → eqb most 0 ≡ true → belongs rule contest (Tries most) q ≡ true → b ≡ true
  none_tried most b e t =
      let zero_of : most ≡ 0 = grind (arith, nat_tests) in
      absurd (false≢true (sym (try_by_none contest.battle contest.stipulation.goal rule contest.stipulation.n q most zero_of) ∙ t))

  -- no key is a try
  pub key_untried : (most : ℕ) (b : Bool) → won ≡ true → belongs rule contest (Tries most) q ≡ true → b ≡ true
  key_untried most b e t =
      absurd (false≢true (sym (no_key_is_a_try contest.battle (game_in rule contest) contest.stipulation.n q (chess_passing rule) most e) ∙ t))

  -- with more refutations than are allowed there is no try
  pub more_untried : (most count : ℕ) (b : Bool) → count ≡ min all (most + 1) → most < count → belongs rule contest (Tries most) q ≡ true → b ≡ true
  more_untried most count b e more t =
      let nonzero : eqb count 0 ≡ false = grind (arith, nat_tests) in
      let over : nat_le count most ≡ false = grind (arith, nat_tests) in
      absurd (false≢true (sym (try_by_count contest.battle contest.stipulation.goal rule contest.stipulation.n q most count e nonzero ∙ over) ∙ t))

  -- a refuted move is no key
  pub refuted_no_key : (most count : ℕ) → count ≡ min all (most + 1) → count ≢ 0 → false ≡ won
  refuted_no_key most count e nonzero = elim (cases_lt count 1) [
    | inl few ↦ absurd (nonzero (omega (arith, few)))
    | inr counted ↦ sym (refuted_is_no_key contest.battle contest.stipulation.goal rule contest.stipulation.n q (omega (arith, e, counted)))
  ]

  -- an unrefuted move is a key by its test
  pub unrefuted_key : (most count : ℕ) (key : Bool) → count ≡ min all (most + 1) → count ≡ 0 → (all ≡ 0 → key ≡ won) → key ≡ won
  unrefuted_key most count key e zero_of test = test (omega (arith, e, zero_of))

  -- a first move that two replies refute is neither a key nor a try with one refutation
  pub twice_refuted_no_key : 2 ≤ all → false ≡ won
  twice_refuted_no_key two = sym (refuted_is_no_key contest.battle contest.stipulation.goal rule contest.stipulation.n q (omega (arith, two)))

  pub twice_refuted_untried : (most : ℕ) (b : Bool) → most ≡ 1 → 2 ≤ all → belongs rule contest (Tries most) q ≡ true → b ≡ true
  twice_refuted_untried most b one two t =
      more_untried most (min all (most + 1)) b refl (omega (arith, one, two)) t

  -- any set holds the refutations of a key
  pub key_held : (set : Option MoveSet) → won ≡ true → HoldAll rule q (refutes rule contest q) set
  key_held set key m c r = absurd (none_in_nil m (subst (λ ms. Contains ms m) (key_unrefuted contest.battle contest.stipulation.goal rule contest.stipulation.n q key)
      (in_filter (refutes rule contest q) (legal_moves rule q) m c r)))

  -- a key has no refutations
  pub key_refuting : (refuting : Refuting) → won ≡ true → refuting ≡ nothing_refuting → AreRefuting rule contest q refuting
  key_refuting refuting key e = rw e (key_held (Some no_moves) key, refuted_nowhere rule contest q 0 refl)

  -- a move with some refutations, and no more than are allowed, is a try
  pub counted_try : (most count : ℕ) → count ≡ min all (most + 1) → count ≢ 0 → count ≤ most → belongs rule contest (Tries most) q ≡ true
  counted_try most count e nonzero few =
      let within : nat_le count most ≡ true = grind (arith, nat_tests) in
      try_by_count contest.battle contest.stipulation.goal rule contest.stipulation.n q most count e (not_zero count nonzero) ∙ within

-- for the test of a first move
pub ruleset classing = (counted_try, none_tried, key_untried, more_untried, refuted_no_key, unrefuted_key, twice_refuted_no_key, twice_refuted_untried)

module _ (rule : RuleSet) (contest : Contest) (most : ℕ) (p : Position) where
  none_at : (kept : KeptTry) → kept.place ≡ 0 → IsKept rule contest most p kept
  none_at kept e m on = absurd (omega (arith, e, on.some))

  -- at first none is kept
  pub none_are_kept : AreKept rule contest most p none_kept
  none_are_kept i lt = none_at (try_at none_kept i) (ap (λ (k : KeptTry). k.place) (get_or-replicate 16 i no_try no_try lt))

  -- only one move is at a place
  only_there : (place : ℕ) (m k : Move) → IsPlaceOf place m → IsPlaceOf place k → m ≡ k
  only_there place m k a b = sym a.move ∙ b.move

  -- a move that was found is kept if it is a try
  pub kept_on : (old new : List KeptTry) (place : ℕ) (by : Move) (refuting : Option Refuting) → IsPlaceOf place by
      → IsKnownTry rule contest most (position_after rule p by) refuting
      → ((i : ℕ) → i < 16 → (try_at new i ≡ try_at old i) ⊎ ((refuting ≡ Some (try_at new i).refuting) × ((try_at new i).place ≡ place)))
      → AreKept rule contest most p old → AreKept rule contest most p new
  kept_on old new place by refuting on known each before i lt = elim (each i lt) [
    | inl same ↦ subst (λ k. IsKept rule contest most p k) (sym same) (before i lt)
    | inr put ↦ λ m there. subst (λ k. IsKnownTry rule contest most (position_after rule p k) (Some (try_at new i).refuting))
        (only_there place by m on (subst (λ n. IsPlaceOf n m) put.1 there))
        (subst (λ o. IsKnownTry rule contest most (position_after rule p by) o) put.0 known)
  ]

  -- what is kept at a place is of the move there
  pub known_at : (kept : List KeptTry) (place : ℕ) (by : Move) (found : Option Refuting) → IsPlaceOf place by → AreKept rule contest most p kept
      → IfSome found (λ set. (i : ℕ) × (i < 16) × (set ≡ (try_at kept i).refuting) × ((try_at kept i).place ≡ place))
      → IsKnownTry rule contest most (position_after rule p by) found
  known_at kept place by None on are f = f
  known_at kept place by (Some set) on are f = subst (λ s. IsKnownTry rule contest most (position_after rule p by) (Some s)) (sym f.2)
      (are f.0 f.1 by (subst (λ n. IsPlaceOf n by) (sym f.3) on))

-- at the beginning of a group nothing is noted among the keys, and the tries are those noted before
pub notes : (rule : RuleSet) (contest : Contest) (most : ℕ) (p : Position) (group : Group) (before candidates : Candidates) (place : ℕ) → place ≡ 0
    → AreCandidates rule contest group most p before 0 → (group ≡ Keys → candidates.kept ≡ none_kept)
    → ((some : ℕ) → group ≡ Tries some → candidates ≡ before)
    → AreCandidates rule contest group most p candidates place
notes rule contest most p Keys before candidates place e are none same = (
  held_at_start rule p (is_try_after rule contest most p) candidates.set place e,
  subst (λ kept. AreKept rule contest most p kept) (sym (none refl)) (none_are_kept rule contest most p),
)
notes rule contest most p (Tries some) before candidates place e are none same = rw (same some refl) are

-- where nothing is known all keys may be candidates
pub unknown_keys : (rule : RuleSet) (contest : Contest) (most : ℕ) (p : Position) (candidates : Candidates) → candidates ≡ candidates_of None
    → AreCandidates rule contest Keys most p candidates 0
unknown_keys rule contest most p candidates e = rw e (λ m c t. inl refl, none_are_kept rule contest most p)
