-- The parts of a phase joined are the phase, and each solution is in one part.
use Rattle.pop_parts.proofs.Words.{AllPairs, Bool, Contains, IsPlayable, IsSound, List, Move, None, Option, Phase, Posed, Precedes, RuleSet, Some, StandsBefore, [], ap, arith, battle_of, beginnings, begins_so, cond, eqb, false, filter, flat_map, flat_map_single, from_filter, from_map, game_of, help_lines, is_impossible_phase, is_help, is_none, legal_moves, length, lines_to_goal, map, min, moves_in_order, nat_tests, none_in_nil, pairs_nil, part_depth, part_solutions, parts, phase_half_moves, phase_start, refl, set_tree, solutions, solutions_by, some_way, subst, suc, sym, true, zero, ℕ, ◌||◌, ◌↔◌, ◌∙◌, ◌∷◌, ◌≡◌, ◌≤◌}
use Rattle.pop_stipulation.specs.declared.stipulation.Battle.{Battle}
use Rattle.pop_events.specs.declared.event.Phase.TheVariants.{Play, Set}
use Rattle.std.proofs.lemmas.List.Folds.{flat_map-map}
use Rattle.pop_walk.proofs.HelpPlay.{from_lines}
use Rattle.pop_parts.proofs.PartLists.{beginnings-lines, beginnings-one, beginnings-play, beginnings-stand, each-own, flat-in, in-beginnings, map-flat}
use Rattle.pop_parts.proofs.Parts.{battle-by, battle-part, battle-solutions, help-part, lines-following}

module _ (rule : RuleSet) (problem : Posed) (phase : Phase) where
  -- a phase of no half-moves has no parts and no solutions
  parts-none : (depth : ℕ) → is_impossible_phase rule problem phase ≡ false → phase_half_moves problem phase ≡ 0 → parts rule problem phase depth ≡ []
  unfolding parts
  parts-none depth free z = let e : eqb (phase_half_moves problem phase) 0 ≡ true = rw z refl in rw (free, e) refl

  -- the parts of any other
  parts-some : (depth : ℕ) → is_impossible_phase rule problem phase ≡ false → 1 ≤ phase_half_moves problem phase
      → parts rule problem phase depth ≡ beginnings (game_of rule problem) (part_depth problem phase depth) (phase_start problem phase)
  unfolding parts
  parts-some depth free some = let e : eqb (phase_half_moves problem phase) 0 ≡ false = grind (arith, nat_tests) in rw (free, e) refl

  parts-help : (depth : ℕ) → is_impossible_phase rule problem phase ≡ false → 1 ≤ phase_half_moves problem phase → is_help problem.stipulation.form ≡ true
      → parts rule problem phase depth ≡ beginnings (game_of rule problem) (min depth (phase_half_moves problem phase)) (phase_start problem phase)
  parts-help depth free some help = rw help at (parts-some depth free some)

  parts-battle : (depth : ℕ) → is_impossible_phase rule problem phase ≡ false → 1 ≤ phase_half_moves problem phase → is_help problem.stipulation.form ≡ false
      → parts rule problem phase depth ≡ beginnings (game_of rule problem) 1 (phase_start problem phase)
  parts-battle depth free some battle = rw battle at (parts-some depth free some)

  -- the parts are the lists of this number of legal moves
  pub parts-are : (depth : ℕ) → is_impossible_phase rule problem phase ≡ false → (h : ℕ) → phase_half_moves problem phase ≡ h → (beginning : List Move)
      → Contains (parts rule problem phase depth) beginning
      ↔ ((1 ≤ phase_half_moves problem phase) × IsPlayable (game_of rule problem) (phase_start problem phase) beginning
      × (length beginning ≡ part_depth problem phase depth))
  parts-are depth free zero z beginning =
      (λ c. absurd (none_in_nil beginning (rw (parts-none depth free z) at c)), λ w. absurd (omega (arith, z, w.0)))
  parts-are depth free (suc h) z beginning =
      let e = parts-some depth free (omega (arith, z)) in
      let d : ℕ = part_depth problem phase depth in (
        λ c. let w = beginnings-play (game_of rule problem) d (phase_start problem phase) beginning (rw e at c) in (omega (arith, z), w.0, w.1),
        λ w. rw e (in-beginnings (game_of rule problem) d (phase_start problem phase) beginning w.1 w.2),
      )

  -- the parts stand in the order of the moves
  pub parts-stand : (depth : ℕ) → AllPairs (StandsBefore Precedes) (parts rule problem phase depth)
  unfolding parts
  parts-stand depth = by_test (is_impossible_phase rule problem phase || eqb (phase_half_moves problem phase) 0)
    where
      by_test : (b : Bool) → AllPairs (StandsBefore Precedes)
          (cond b [] (beginnings (game_of rule problem) (part_depth problem phase depth) (phase_start problem phase)))
      by_test true = pairs_nil (StandsBefore Precedes)
      by_test false = beginnings-stand (game_of rule problem) (moves_in_order rule) (part_depth problem phase depth) (phase_start problem phase)

  -- help play
  help-some : (h : ℕ) → 1 ≤ h
      → help_lines (game_of rule problem) h (phase_start problem phase) ≡ lines_to_goal (game_of rule problem) h (phase_start problem phase)
  unfolding help_lines
  help-some zero some = absurd (omega (arith, some))
  help-some (suc h) some = refl

  help-solutions : battle_of problem.stipulation.form ≡ None → 1 ≤ phase_half_moves problem phase
      → solutions rule problem phase
      ≡ map (λ path. path ∷ []) (lines_to_goal (game_of rule problem) (phase_half_moves problem phase) (phase_start problem phase))
  unfolding solutions
  help-solutions help some = rw help (ap (map (λ path. path ∷ [])) (help-some (phase_half_moves problem phase) some))

  help-joined : battle_of problem.stipulation.form ≡ None → 1 ≤ phase_half_moves problem phase → (d : ℕ) → d ≤ phase_half_moves problem phase
      → flat_map (part_solutions rule problem phase) (beginnings (game_of rule problem) d (phase_start problem phase)) ≡ solutions rule problem phase
  help-joined help some d most =
      let begun = beginnings (game_of rule problem) d (phase_start problem phase) in
      flat-in (part_solutions rule problem phase) (λ beginning. map (λ path. path ∷ []) (lines-following rule problem phase beginning)) begun
      (λ beginning c. let w = beginnings-play (game_of rule problem) d (phase_start problem phase) beginning c in
      help-part rule problem help phase beginning w.0 (omega (arith, w.1, most)) some)
      ∙ sym (map-flat (λ path. path ∷ []) (lines-following rule problem phase) begun)
      ∙ ap (map (λ path. path ∷ []))
      (beginnings-lines (game_of rule problem) d (phase_half_moves problem phase) (phase_start problem phase) most)
      ∙ sym (help-solutions help some)

  help-once : battle_of problem.stipulation.form ≡ None → 1 ≤ phase_half_moves problem phase → (d : ℕ) → d ≤ phase_half_moves problem phase
      → (s : List (List Move)) → Contains (solutions rule problem phase) s
      → length (filter (λ beginning. begins_so beginning s) (beginnings (game_of rule problem) d (phase_start problem phase))) ≡ 1
  help-once help some d most s c =
      let w = from_map (λ path. path ∷ []) (lines_to_goal (game_of rule problem) (phase_half_moves problem phase) (phase_start problem phase)) s
      (rw (help-solutions help some) at c) in
      let l = from_lines (game_of rule problem) (phase_half_moves problem phase) (phase_start problem phase) w.0 w.1 in
      subst (λ s. length (filter (λ beginning. begins_so beginning s) (beginnings (game_of rule problem) d (phase_start problem phase))) ≡ 1) w.2
      (ap length (beginnings-one (game_of rule problem) (moves_in_order rule) d (phase_start problem phase) w.0 l.1 (omega (arith, l.0, most))))

  -- battle play
  beginnings-each : beginnings (game_of rule problem) 1 (phase_start problem phase) ≡ map (λ m. m ∷ []) (legal_moves rule (phase_start problem phase))
  unfolding beginnings
  beginnings-each = flat_map_single (λ m. m ∷ []) (legal_moves rule (phase_start problem phase))

module _ (rule : RuleSet) (problem : Posed) where
  by-joined : (battle : Battle) (phase : Phase) (h : ℕ) (ms : List Move)
      → flat_map (λ m. battle-by rule problem battle phase h (m ∷ [])) ms ≡ battle-by rule problem battle phase h ms
  by-joined battle Set h ms = each-own _ _ ms
  by-joined battle Play h ms = each-own _ _ ms

  by-roots : (battle : Battle) (phase : Phase) (h : ℕ) (ms : List Move) (s : List (List Move)) → Contains (battle-by rule problem battle phase h ms) s
      → (m : Move) × (below : List (List Move)) × Contains ms m × ((m ∷ []) ∷ below ≡ s)
  by-roots battle Set h ms s c = let w = from_map _ _ s c in let f = from_filter _ ms w.0 w.1 in (w.0, _, f.0, w.2)
  by-roots battle Play h ms s c = let w = from_map _ _ s c in let f = from_filter _ ms w.0 w.1 in (w.0, _, f.0, w.2)

  battle-joined : (battle : Battle) → battle_of problem.stipulation.form ≡ Some battle → (phase : Phase) (h : ℕ) → phase_half_moves problem phase ≡ suc h
      → flat_map (part_solutions rule problem phase) (beginnings (game_of rule problem) 1 (phase_start problem phase)) ≡ solutions rule problem phase
  battle-joined battle fought phase h z =
      let ms = legal_moves rule (phase_start problem phase) in
      ap (flat_map (part_solutions rule problem phase)) (beginnings-each rule problem phase)
      ∙ flat_map-map (part_solutions rule problem phase) (λ m. m ∷ []) ms
      ∙ flat-in (λ m. part_solutions rule problem phase (m ∷ [])) (λ m. battle-by rule problem battle phase h (m ∷ [])) ms
      (λ m c. battle-part rule problem battle fought phase h z m c)
      ∙ by-joined battle phase h ms ∙ sym (battle-solutions rule problem battle fought phase h z)

  battle-once : (battle : Battle) → battle_of problem.stipulation.form ≡ Some battle → (phase : Phase) (h : ℕ) → phase_half_moves problem phase ≡ suc h
      → (s : List (List Move)) → Contains (solutions rule problem phase) s
      → length (filter (λ beginning. begins_so beginning s) (beginnings (game_of rule problem) 1 (phase_start problem phase))) ≡ 1
  battle-once battle fought phase h z s c =
      let w = by-roots battle phase h (legal_moves rule (phase_start problem phase)) s (rw (battle-solutions rule problem battle fought phase h z) at c) in
      subst (λ s. length (filter (λ beginning. begins_so beginning s) (beginnings (game_of rule problem) 1 (phase_start problem phase))) ≡ 1) w.3
      (ap length (beginnings-one (game_of rule problem) (moves_in_order rule) 1 (phase_start problem phase) (w.0 ∷ []) (w.2, tt) (omega arith)))

  none-solved : IsSound problem → (phase : Phase) → phase_half_moves problem phase ≡ 0 → solutions rule problem phase ≡ []
  unfolding solutions help_lines set_tree
  none-solved sound Play z = absurd (omega (arith, z, some_way problem sound))
  none-solved sound Set z = by_play (battle_of problem.stipulation.form)
    where
      by_play : (battle : Option Battle) → solutions_by battle rule problem Set ≡ []
      by_play None = rw z refl
      by_play (Some battle) = rw z refl

  module _ (phase : Phase) (depth : ℕ) (free : is_impossible_phase rule problem phase ≡ false) (sound : IsSound problem) where
    all-joined : (h : ℕ) → phase_half_moves problem phase ≡ h → (battle : Option Battle) → battle_of problem.stipulation.form ≡ battle
        → flat_map (part_solutions rule problem phase) (parts rule problem phase depth) ≡ solutions rule problem phase
    all-joined zero z play e = ap (flat_map (part_solutions rule problem phase)) (parts-none rule problem phase depth free z) ∙ sym (none-solved sound phase z)
    all-joined (suc h) z None help =
        ap (flat_map (part_solutions rule problem phase))
        (parts-help rule problem phase depth free (omega (arith, z)) (ap is_none help))
        ∙ help-joined rule problem phase help (omega (arith, z)) (min depth (phase_half_moves problem phase)) (omega arith)
    all-joined (suc h) z (Some battle) fought =
        ap (flat_map (part_solutions rule problem phase))
        (parts-battle rule problem phase depth free (omega (arith, z)) (ap is_none fought))
        ∙ battle-joined battle fought phase h z

    -- the solutions of all parts, joined, are the phase's
    pub joined : flat_map (part_solutions rule problem phase) (parts rule problem phase depth) ≡ solutions rule problem phase
    joined = all-joined (phase_half_moves problem phase) refl (battle_of problem.stipulation.form) refl

    all-once : (h : ℕ) → phase_half_moves problem phase ≡ h → (battle : Option Battle) → battle_of problem.stipulation.form ≡ battle
        → (s : List (List Move)) → Contains (solutions rule problem phase) s
        → length (filter (λ beginning. begins_so beginning s) (parts rule problem phase depth)) ≡ 1
    all-once zero z play e s c = absurd (none_in_nil s (rw (none-solved sound phase z) at c))
    all-once (suc h) z None help s c =
        ap (λ begun. length (filter (λ beginning. begins_so beginning s) begun)) (parts-help rule problem phase depth free (omega (arith, z))
        (ap is_none help))
        ∙ help-once rule problem phase help (omega (arith, z)) (min depth (phase_half_moves problem phase)) (omega arith) s c
    all-once (suc h) z (Some battle) fought s c =
        ap (λ begun. length (filter (λ beginning. begins_so beginning s) begun)) (parts-battle rule problem phase depth free (omega (arith, z))
        (ap is_none fought))
        ∙ battle-once battle fought phase h z s c

    -- each solution begins as one part alone
    pub once : (s : List (List Move)) → Contains (solutions rule problem phase) s
        → length (filter (λ beginning. begins_so beginning s) (parts rule problem phase depth)) ≡ 1
    once s c = all-once (phase_half_moves problem phase) refl (battle_of problem.stipulation.form) refl s c
