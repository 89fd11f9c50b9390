-- The events of a problem before they are shown: no line and no node comes twice.
use Rattle.pop_walk.proofs.Words.{AllPairs, BareEvent, Bool, Contains, Contains-append_cases, List, Move, Phase, Play, Posed, RuleSet, Set, [], arith, cond, events, false, from_map, impossible, in_cases, inl, inr, is_impossible_phase, line, map, none_in_nil, opening, pairs_append, pairs_map, pairs_nil, pairs_of, path_event, phase_events, solutions, subst, take, total, tree_node, true, ◌++◌, ◌∷◌, ◌≡◌, ◌≢◌}
use Rattle.pop_walk.proofs.theorems.Lists.{paths}
use Rattle.pop_walk.proofs.theorems.Solutions.{shown_paths_differ}

-- The event has a path: it is a line or a node.
abbrev pub GivesPath : BareEvent → Type 0
GivesPath (opening phase) = ⊥
GivesPath impossible = ⊥
GivesPath (line phase path) = Unit {0}
GivesPath (tree_node phase path) = Unit {0}
GivesPath (total count stopped) = ⊥

-- A line or a node, and another event than t.
abbrev pub IsOtherThan : BareEvent → BareEvent → Type 0
IsOtherThan s t = GivesPath s → s ≢ t

module _ (rule : RuleSet) (problem : Posed) where
  rest_differs : (phase : Phase) (b : Bool) (end : BareEvent) → ((path : List Move) → path_event problem phase path ≡ end → ⊥)
      → AllPairs IsOtherThan
      (cond b (impossible ∷ []) (map (path_event problem phase) (paths (take problem.max_solutions (solutions rule problem phase))) ++ end ∷ []))
  rest_differs phase true end apart = pairs_of IsOtherThan impossible [] (λ y c. absurd (none_in_nil y c)) (pairs_nil IsOtherThan)
  rest_differs phase false end apart =
      let all = paths (take problem.max_solutions (solutions rule problem phase)) in
      pairs_append IsOtherThan (map (path_event problem phase) all) (end ∷ [])
      (pairs_map (λ a b. a ≢ b) IsOtherThan (path_event problem phase) all
      (λ x y ne gives same. ne (grind arith)) (shown_paths_differ rule problem phase))
      (pairs_of IsOtherThan end [] (λ y c. absurd (none_in_nil y c)) (pairs_nil IsOtherThan))
      (λ x y c d gives same. grind (arith, from_map (path_event problem phase) all x c, in_cases end [] y d, none_in_nil y))

  -- No line and no node of a phase comes twice.
  pub events_of_a_phase_differ : (phase : Phase) → AllPairs IsOtherThan (phase_events rule problem phase)
  unfolding phase_events
  events_of_a_phase_differ phase = grind (arith, pairs_of, rest_differs)

  in_rest : (phase : Phase) (b : Bool) (end x : BareEvent) → (GivesPath end → ⊥)
      → Contains (cond b (impossible ∷ []) (map (path_event problem phase) (paths (take problem.max_solutions (solutions rule problem phase))) ++ end ∷ [])) x
      → GivesPath x → (path : List Move) × (path_event problem phase path ≡ x)
  in_rest phase true end x bare c gives = grind (arith, in_cases, none_in_nil)
  in_rest phase false end x bare c gives =
      let all = paths (take problem.max_solutions (solutions rule problem phase)) in
      grind (arith, Contains-append_cases (map (path_event problem phase) all) (end ∷ []) x c, from_map (path_event problem phase) all x, in_cases, none_in_nil)

  in_phase : (phase : Phase) (x : BareEvent) → Contains (phase_events rule problem phase) x → GivesPath x
      → (path : List Move) × (path_event problem phase path ≡ x)
  unfolding phase_events
  in_phase phase x c gives =
      elim (in_cases (opening phase) _ x c) [ inl e ↦ grind arith | inr r ↦ in_rest phase (is_impossible_phase rule problem phase) _ x (λ none. none) r gives ]

  both : AllPairs IsOtherThan (phase_events rule problem Set ++ phase_events rule problem Play)
  both = pairs_append IsOtherThan (phase_events rule problem Set) (phase_events rule problem Play) (events_of_a_phase_differ Set)
      (events_of_a_phase_differ Play) (λ x y c d gives same. grind (arith, in_phase Set x c gives, in_phase Play y d (subst GivesPath same gives)))

  -- No line and no node of a problem comes twice.
  pub events_differ : AllPairs IsOtherThan (events rule problem)
  events_differ = grind (arith, both, events_of_a_phase_differ)
