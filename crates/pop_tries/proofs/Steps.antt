-- What the steps of a search for tries leave to come.
use Rattle.pop_tries.proofs.Words.{Bool, List, Move, Posed, Position, RuleSet, [], ap, arith, below, false, false≢true, filter, flat_map, key_events, length, map, nat_tests, play_start, refl, suc, take, true, zero, ℕ, ◌+◌, ◌-◌, ◌∙◌, ◌∷◌, ◌≡◌, ◌≤◌}
use Rattle.pop_battle.proofs.Boards.{after_start}
use Rattle.pop_battle.proofs.Words.{append-nil, append_assoc}
use Rattle.pop_walk.proofs.Trees.{flat-same}
use Rattle.chess_core.specs.Undo.{Undo}
use Rattle.std.specs.Prelude.{None, Option}
use Rattle.std.proofs.lemmas.List.FromFn.{length-map-range_with_len}
use Rattle.chess_rules.proofs.Places.{triples_numbered}
use Rattle.chess_rules.specs.ties.Places.{all_triples, triple_at}
use Rattle.chess_rules.specs.ties.Places.{moves_after}
unfoldable use Rattle.chess_rules.specs.ties.Places.{met_after}
use Rattle.pop_tries.specs.declared.first_moves.Group.{Group}
use Rattle.pop_tries.specs.declared.first_moves.Group.TheVariants.{Keys, Tries}
use Rattle.pop_tries.specs.declared.progress.Firsts.{Firsts}
use Rattle.pop_tries.specs.declared.refuting.Refuting.{Refuting}
use Rattle.pop_tries.specs.declared.progress.Task.{Task}
use Rattle.pop_tries.specs.declared.threats.Threat.{Threat}
use Rattle.pop_tries.specs.ties.Candidates.{candidates_of}
use Rattle.pop_tries.specs.ties.Searching.{IsInLimit, below_and_after, after_first, beginning_of, contest_of, ending_of, events_of_first, first_event, firsts_after, firsts_left, group_left, is_stopped, shown_after, whole_group, within_limit}
use Rattle.chess_rules.specs.Legal.{is_legal, triples}
use Rattle.pop_tries.specs.Events.{key, key_moves, try_moves}
use Rattle.pop_tries.specs.ties.FirstMoves.{belongs}

-- of nothing nothing is taken
none_taken : (n : ℕ) (ms : List Move) → ms ≡ [] → take n ms ≡ []
none_taken zero ms e = refl
none_taken (suc n) ms e = rw e refl

-- a filter keeps no more than there is
short_filter : {X : Type 0} (test : X → Bool) (xs : List X) → length (filter test xs) ≤ length xs
short_filter test [] = omega arith
short_filter test (x ∷ xs) = by (test x) refl (short_filter test xs)
  where
    by : (b : Bool) → test x ≡ b → length (filter test xs) ≤ length xs → length (filter test (x ∷ xs)) ≤ length (x ∷ xs)
    by true e rest = rw e (omega (arith, rest))
    by false e rest = rw e (omega (arith, rest))

count_triples : length triples ≡ all_triples
count_triples = ap length triples_numbered ∙ length-map-range_with_len triple_at 0 all_triples

few_moves : (rule : RuleSet) (p : Position) → length (moves_after rule p 0) ≤ all_triples
unfolding met_after
few_moves rule p = omega (arith, short_filter (is_legal rule p) triples, count_triples)

module _ (rule : RuleSet) (task : Task) where
  -- the first moves of a group are no more than the triples
  pub few_firsts : (group : Group) → length (firsts_after rule task group 0) ≤ all_triples
  few_firsts group = omega (
    arith,
    few_moves rule (play_start task.problem),
    short_filter (λ m. belongs rule (contest_of task) group (after_first rule task m)) (moves_after rule (play_start task.problem) 0),
  )

  pub none_counted : (group : Group) → 0 + length (firsts_after rule task group 0) ≤ all_triples
  none_counted group = omega (arith, few_firsts group)

  -- of keys nothing is shown below them after the replies
  key_closed : (m : Move) → events_of_first rule task Keys m ≡ key_events task.battle rule task.problem m
  key_closed m = ap (λ xs. key m ∷ map (below m) xs) (append-nil (shown_after rule task m))

  -- a group begins
  pub group_begins : (group : Group) → whole_group rule task group
      ≡ beginning_of group ∷ group_left rule task (record { group = group; place = 0; count = 0; candidates = candidates_of None })
  group_begins Keys =
      let all : task.problem.max_solutions - 0 ≡ task.problem.max_solutions = omega arith in
      let shown : List Move = take task.problem.max_solutions (key_moves task.battle rule task.problem) in
      let same : 0 + length shown ≡ length shown = omega arith in
      rw (
        all,
        after_start rule (play_start task.problem),
        flat-same (events_of_first rule task Keys) (key_events task.battle rule task.problem) shown key_closed,
        same,
      ) refl
  group_begins (Tries most) =
      let same : 0 + length (try_moves task.battle rule task.problem most) ≡ length (try_moves task.battle rule task.problem most) = omega arith in
      rw (after_start rule (play_start task.problem), same) refl

  no_more : (group : Group) (count : ℕ) → within_limit task.problem group count [] ≡ []
  no_more Keys count = none_taken (task.problem.max_solutions - count) [] refl
  no_more (Tries most) count = refl

  -- a group that the limit stops ends
  pub stopped_ends : (group : Group) (place count : ℕ) → is_stopped task.problem group count ≡ true
      → group_left rule task (record { group = group; place = place; count = count; candidates = candidates_of None }) ≡ ending_of rule task group count
  stopped_ends Keys place count e =
      let none : task.problem.max_solutions - count ≡ 0 = grind (arith, nat_tests) in
      let same : count + 0 ≡ count = omega arith in
      rw (none, same) refl
  stopped_ends (Tries most) place count e = absurd (false≢true e)

  -- a group without further first moves ends
  pub emptied_ends : (group : Group) (place count : ℕ) → firsts_after rule task group place ≡ []
      → group_left rule task (record { group = group; place = place; count = count; candidates = candidates_of None }) ≡ ending_of rule task group count
  emptied_ends group place count e =
      let same : count + 0 ≡ count = omega arith in
      rw (e, no_more group count, same) refl

  limited : (group : Group) (count : ℕ) (m : Move) (ms : List Move) → IsInLimit task.problem group count → is_stopped task.problem group count ≡ false
      → within_limit task.problem group count (m ∷ ms) ≡ m ∷ within_limit task.problem group (count + 1) ms
  limited Keys count m ms few e =
      let more : task.problem.max_solutions - count ≡ suc (task.problem.max_solutions - (count + 1)) = grind (arith, nat_tests) in
      rw more refl
  limited (Tries most) count m ms few e = refl

  module _ (group : Group) (place next count : ℕ) (m : Move) (found : firsts_after rule task group place ≡ m ∷ firsts_after rule task group next)
      (few : IsInLimit task.problem group count) (open_yet : is_stopped task.problem group count ≡ false) where
    abbrev before : Firsts
    before = record { group = group; place = place; count = count; candidates = candidates_of None }

    abbrev then : Firsts
    then = record { group = group; place = next; count = count + 1; candidates = candidates_of None }

    -- the next first move of a group
    pub next_first : (undo : Undo) (threat : Option Threat) (refuting : Refuting) → group_left rule task before
        ≡ first_event group m ∷ below_and_after rule task (record { firsts = then; by = m; undo = undo; threat = threat; refuting = refuting }) (shown_after rule task m)
    next_first undo threat refuting =
        let left : firsts_left rule task before ≡ m ∷ firsts_left rule task then = rw found (limited group count m _ few open_yet) in
        let total : count + suc (length (firsts_left rule task then)) ≡ count + 1 + length (firsts_left rule task then) = omega arith in
        rw (left, total) (append_assoc (events_of_first rule task group m) (flat_map (events_of_first rule task group) (firsts_left rule task then)) _)

    -- the counts fit
    pub still_few : count + length (firsts_after rule task group place) ≤ all_triples
        → count + 1 + length (firsts_after rule task group next) ≤ all_triples
    still_few old = omega (arith, old, ap length found)

  -- the limit isn't exceeded
  pub still_limited : (group : Group) (count : ℕ) → IsInLimit task.problem group count → is_stopped task.problem group count ≡ false
      → IsInLimit task.problem group (count + 1)
  still_limited Keys count few e = grind (arith, nat_tests)
  still_limited (Tries most) count few e = tt

-- at first the limit isn't exceeded
pub at_first : (problem : Posed) (group : Group) → IsInLimit problem group 0
at_first problem Keys = omega arith
at_first problem (Tries most) = tt
