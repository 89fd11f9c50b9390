-- Moves kept by their places: a loop over the moves of a position that notes them, and tests of each.
use Rattle.pop_tries.proofs.Words.{Battle, Bool, Contains, Direct, Goal, IsWellFormed, List, Move, Position, RuleSet, SelfMate, [], chess, false, false≢true, filter, in_cases, in_filter, inl, inr, keeps_win, legal_moves, list_any, none_in_nil, not, position_after, refl, subst, true, ℕ, ◌&&◌, ◌||◌, ◌∷◌, ◌≡◌, ◌⊎◌}
unfoldable use Rattle.pop_tries.proofs.Words.{is_lost}
use Rattle.chess_flights.proofs.Mating.{mates_after-are}
use Rattle.chess_flights.specs.ties.Mates.{mates_after}
use Rattle.chess_flights.specs.ties.Mates.{is_mating}
use Rattle.pop_battle.specs.ties.Marks.{is_for_mate}
use Rattle.pop_battle.specs.ties.Values.{attacker_to_move}
use Rattle.pop_stipulation.specs.declared.stipulation.Goal.TheVariants.{Mate, Stalemate}
use Rattle.pop_tries.specs.declared.contest.Contest.{Contest}
use Rattle.pop_tries.specs.declared.move_set.MoveSet.{MoveSet}
use Rattle.pop_tries.specs.ties.Contests.{IsLength, moves_of, wins_within}
use Rattle.pop_tries.specs.ties.MoveSets.{HoldAll, may_hold}
use Rattle.chess_rules.specs.Legal.{is_legal}
use Rattle.chess_rules.specs.ties.Places.{moves_after, place_of}
use Rattle.std.specs.Prelude.{Some}
use Rattle.pop_battle.proofs.Boards.{after_start}
use Rattle.pop_tries.proofs.Contests.{placed}
use Rattle.pop_tries.proofs.Loops.{first_meets}
use Rattle.pop_tries.specs.declared.few_places.FewPlaces.{FewPlaces}
use Rattle.pop_tries.specs.declared.few_places.FewPlaces.TheVariants.{Empty, One, Two, Many}
use Rattle.pop_tries.specs.ties.FewPlaces.{all_meet, are_few, AreAt, ArePlaces, IsPlaceOf}

-- the places of some moves are places of moves
pub places_of : (few : FewPlaces) (all rest : List Move) → AreAt few all rest → ArePlaces few
places_of Empty all rest a = record {}
places_of (One place) all rest a = (a.1.some, a.1.most)
places_of (Two first second) all rest a = ((a.2.some, a.2.most), (a.3.some, a.3.most))
places_of Many all rest a = record {}

one_fails : (a : Bool) → not a ≡ (not a || false)
one_fails true = refl
one_fails false = refl

one_of_two_fails : (a b : Bool) → not (a && b) ≡ (not a || (not b || false))
one_of_two_fails true b = one_fails b
one_of_two_fails false b = refl

-- not all few moves meet the test, exactly if some fails
pub some_fails : (test : Move → Bool) (few : FewPlaces) (all : List Move) → AreAt few all [] → are_few few ≡ true
    → not (all_meet test few) ≡ list_any (λ t. not (test t)) all
some_fails test Empty all a few = rw a refl
some_fails test (One place) all a few = rw (a.1.move, a.2) (one_fails (test a.0))
some_fails test (Two first second) all a few = rw (a.2.move, a.3.move, a.4) (one_of_two_fails (test a.0) (test a.1))
some_fails test Many all a few = absurd (false≢true few)

-- the place of a legal move right before a cursor
pub place_is : (rule : RuleSet) (p : Position) (m : Move) (place : ℕ) → IsWellFormed p → is_legal rule p m ≡ true → place ≡ place_of (Some m) → IsPlaceOf place m
place_is rule p m place well legal e = let on = placed rule p m place well legal e in record { some = on.0; most = on.1; move = on.2 }

module _ (rule : RuleSet) (p : Position) (test : Move → Bool) where
  abbrev all : List Move
  all = filter test (legal_moves rule p)

  -- before the first move none is noted
  pub none_noted : (place : ℕ) → place ≡ 0 → AreAt Empty all (filter test (moves_after rule p place))
  none_noted place e = rw (e, after_start rule p) refl

  -- the next move meets the test, and is noted
  pub noted_on : (few new : FewPlaces) (place next number : ℕ) (m : Move) → moves_after rule p place ≡ m ∷ moves_after rule p next → test m ≡ true
      → ((k : Move) (ms rest : List Move) → IsPlaceOf number k → AreAt few ms (k ∷ rest) → AreAt new ms rest) → IsPlaceOf number m
      → AreAt few all (filter test (moves_after rule p place)) → AreAt new all (filter test (moves_after rule p next))
  noted_on few new place next number m e meets put on held =
      put m all _ on (subst (λ ms. AreAt few all ms) (first_meets test m (moves_after rule p place) (moves_after rule p next) e meets) held)

  -- the next move fails
  pub skipped_on : (few : FewPlaces) (place next : ℕ) (m : Move) → moves_after rule p place ≡ m ∷ moves_after rule p next → test m ≡ false
      → AreAt few all (filter test (moves_after rule p place)) → AreAt few all (filter test (moves_after rule p next))
  skipped_on few place next m e fails held = subst (λ ms. AreAt few all ms) (rw (e, fails) refl) held

  -- after the last move all are noted
  pub noted_at_end : (few : FewPlaces) (place : ℕ) → moves_after rule p place ≡ [] → AreAt few all (filter test (moves_after rule p place)) → AreAt few all []
  noted_at_end few place e held = subst (λ ms. AreAt few all (filter test ms)) e held

-- for a loop that notes moves
pub ruleset noting = (none_noted, noted_at_end)

-- a loop over mating moves: each is held, or comes later
pub held_along : (all old new : List Move) (m : Move) (before after : MoveSet) → old ≡ m ∷ new
    → ((k : Move) → Contains all k → (may_hold before k ≡ true) ⊎ Contains old k) → may_hold after m ≡ true
    → ((k : Move) → may_hold before k ≡ true → may_hold after k ≡ true)
    → (k : Move) → Contains all k → (may_hold after k ≡ true) ⊎ Contains new k
held_along all old new m before after e held put kept k c = elim (held k c) [
  | inl h ↦ inl (kept k h)
  | inr later ↦ elim (in_cases m new k (rw e at later)) [
    | inl same ↦ inl (subst (λ j. may_hold after j ≡ true) same put)
    | inr rest ↦ inr rest
  ]
]

module _ (rule : RuleSet) (p : Position) where
  -- before the first move all mating moves come later
  pub mates_at_start : (place : ℕ) → place ≡ 0 → mates_after rule p place ≡ filter (is_mating rule p) (legal_moves rule p)
  mates_at_start place e = rw (e, mates_after-are rule p 0, after_start rule p) refl

  -- after the last one none comes
  pub mates_held : (set : MoveSet) (place : ℕ) → mates_after rule p place ≡ []
      → ((k : Move) → Contains (filter (is_mating rule p) (legal_moves rule p)) k → (may_hold set k ≡ true) ⊎ Contains (mates_after rule p place) k)
      → HoldAll rule p (is_mating rule p) (Some set)
  mates_held set place e held m c t = elim (held m (in_filter (is_mating rule p) (legal_moves rule p) m c t)) [
    | inl h ↦ h
    | inr later ↦ absurd (none_in_nil m (rw e at later))
  ]

  -- to win in one half-move is to mate
  pub mating_wins : (contest : Contest) (length : ℕ) → IsLength contest length → length ≡ 1 → is_for_mate contest.stipulation.goal ≡ true
      → wins_within rule contest length p ≡ is_mating rule p
  unfolding is_lost
  mating_wins contest length white one mate = rw one (by contest.battle contest.stipulation.goal (rw one at white.white) mate)
    where
      by : (battle : Battle) (goal : Goal) → attacker_to_move battle 1 ≡ true → is_for_mate goal ≡ true
          → (λ m. keeps_win battle (chess goal rule) (moves_of 1) (position_after rule p m)) ≡ is_mating rule p
      by Direct Mate w f = refl
      by Direct Stalemate w f = absurd (false≢true f)
      by SelfMate goal w f = absurd (false≢true w)
