-- After a part's first moves the walk shows exactly the part's solutions.
use Rattle.pop_parts.proofs.Words.{Bool, Contains, IsPlayable, IsSound, IsWellFormed, List, Move, None, Option, Phase, Posed, Position, RuleSet, Some, [], after_well_formed, ap, append-nil, append_assoc, arith, battle_of, begins_path, begins_so, chess, eqb, false, filter, game_of, help_lines, is_help, is_none, may_be_made, legal_moves, length, length-append, lines_to_goal, map, map-id, moves_are_the_legal_moves, moves_in_order, part_solutions, path_end, path_end-append, phase_half_moves, phase_start, mode_of, position_after, refl, set_tree, shown_paths, solutions, start_sound, subst, suc, sym, true, zero, ℕ, ◌++◌, ◌+◌, ◌-◌, ◌∙◌, ◌∷◌, ◌≡◌, ◌≤◌}
use Rattle.pop_stipulation.specs.declared.stipulation.Battle.{Battle}
use Rattle.pop_events.specs.declared.event.Phase.TheVariants.{Play, Set}
use Rattle.std.proofs.lemmas.Simd.{map-map}
use Rattle.pop_parts.proofs.PartLists.{beginning-lines, filter-map, map-each, root-part}
use Rattle.pop_walk.proofs.Solved.{IsCutInto, halves-form, lines-cut, set-cut, set_by, tree-cut, tree_by}
use Rattle.pop_walk.proofs.Trees.{shown_paths-moves}
use Rattle.pop_parts.specs.ties.PartsSeen.{are_legal}

module _ (rule : RuleSet) (problem : Posed) where
  -- legal moves can be played
  is_legal-playable : (p : Position) → IsWellFormed p → (beginning : List Move) → are_legal rule p beginning ≡ true → IsPlayable (game_of rule problem) p beginning
  unfolding are_legal
  is_legal-playable p well [] may = tt
  is_legal-playable p well (m ∷ ms) may =
      let after = after_well_formed rule p m well in
      let rest = λ (w : IsWellFormed (position_after rule p m)). is_legal-playable (position_after rule p m) w ms in
      grind (arith, moves_are_the_legal_moves rule p m well, after, may_be_made rule p m, rest)

  -- help play: the lines that continue some moves
  abbrev pub lines-following : Phase → List Move → List (List Move)
  lines-following phase beginning = map (λ line. beginning ++ line) (lines_to_goal (game_of rule problem) (phase_half_moves problem phase - length beginning)
      (path_end (position_after rule) (phase_start problem phase) beginning))

  each-alone : (h : ℕ) (p : Position) (beginning : List Move) → 1 ≤ h
      → filter (begins_so beginning) (map (λ path. path ∷ []) (help_lines (game_of rule problem) h p))
      ≡ map (λ path. path ∷ []) (filter (begins_path beginning) (lines_to_goal (game_of rule problem) h p))
  unfolding help_lines
  each-alone zero p beginning some = absurd (omega (arith, some))
  each-alone (suc h) p beginning some = filter-map (begins_so beginning) (λ path. path ∷ []) (lines_to_goal (game_of rule problem) (suc h) p)

  -- the solutions of a part of help play are these lines
  pub help-part : battle_of problem.stipulation.form ≡ None → (phase : Phase) (beginning : List Move)
      → IsPlayable (game_of rule problem) (phase_start problem phase) beginning → length beginning ≤ phase_half_moves problem phase
      → 1 ≤ phase_half_moves problem phase → part_solutions rule problem phase beginning ≡ map (λ path. path ∷ []) (lines-following phase beginning)
  unfolding part_solutions solutions
  help-part help phase beginning are most some =
      rw help (each-alone (phase_half_moves problem phase) (phase_start problem phase) beginning some
      ∙ ap (map (λ path. path ∷ [])) (beginning-lines (game_of rule problem) (moves_in_order rule) (phase_half_moves problem phase)
      (phase_start problem phase) beginning are most))

  -- a battle, of h + 1 half-moves: the solutions that begin with some moves
  abbrev pub battle-by : Battle → Phase → ℕ → List Move → List (List (List Move))
  battle-by battle Set h ms = set_by battle (game_of rule problem) problem.variation problem.stipulation.n h (phase_start problem Set) ms
  battle-by battle Play h ms = tree_by battle (game_of rule problem) problem.variation problem.stipulation.n (suc h) (phase_start problem Play) ms

  -- the solutions of a phase are those that begin with any of its moves
  pub battle-solutions : (battle : Battle) → battle_of problem.stipulation.form ≡ Some battle → (phase : Phase) (h : ℕ)
      → phase_half_moves problem phase ≡ suc h
      → solutions rule problem phase ≡ battle-by battle phase h (legal_moves rule (phase_start problem phase))
  unfolding set_tree solutions
  battle-solutions battle fought Set h z = rw (fought, z) refl
  battle-solutions battle fought Play h z = rw (fought, z) refl

  of-one : (battle : Battle) (phase : Phase) (h : ℕ) (m : Move) → Contains (legal_moves rule (phase_start problem phase)) m
      → filter (begins_so (m ∷ [])) (battle-by battle phase h (legal_moves rule (phase_start problem phase))) ≡ battle-by battle phase h (m ∷ [])
  of-one battle Set h m c = root-part _ _ m (legal_moves rule (phase_start problem Set)) (moves_in_order rule (phase_start problem Set)) c
  of-one battle Play h m c = root-part _ _ m (legal_moves rule (phase_start problem Play)) (moves_in_order rule (phase_start problem Play)) c

  -- the solutions of a part are the solutions that begin with its move
  pub battle-part : (battle : Battle) → battle_of problem.stipulation.form ≡ Some battle → (phase : Phase) (h : ℕ) → phase_half_moves problem phase ≡ suc h
      → (m : Move) → Contains (legal_moves rule (phase_start problem phase)) m → part_solutions rule problem phase (m ∷ []) ≡ battle-by battle phase h (m ∷ [])
  unfolding part_solutions
  battle-part battle fought phase h z m c = ap (filter (begins_so (m ∷ []))) (battle-solutions battle fought phase h z) ∙ of-one battle phase h m c

  -- what the walk shows after some moves in help play
  walked : battle_of problem.stipulation.form ≡ None → (start : Bool) (h : ℕ) (p : Position) (beginning : List Move) (m : Move) → length beginning + 1 ≤ h
      → map (λ line. beginning ++ line) (shown_paths (mode_of problem) (game_of rule problem) start (h - length beginning) (h - length beginning)
      (path_end (position_after rule) p beginning) (m ∷ []))
      ≡ map (λ line. (beginning ++ m ∷ []) ++ line) (lines_to_goal (game_of rule problem) (h - length (beginning ++ m ∷ []))
      (path_end (position_after rule) p (beginning ++ m ∷ [])))
  walked help start h p beginning m room =
      let k : ℕ = h - length (beginning ++ m ∷ []) in
      let e : h - length beginning ≡ suc k = omega (arith, length-append beginning (m ∷ []), room) in
      let L : List (List Move) = lines_to_goal (game_of rule problem) k (position_after rule (path_end (position_after rule) p beginning) m) in
      rw (e, path_end-append problem.stipulation.goal rule p beginning m)
      (ap (map (λ line. beginning ++ line)) (shown_paths-moves (game_of rule problem) (mode_of problem) help start k (path_end (position_after rule) p beginning)
      (m ∷ [])
      ∙ append-nil (map (λ line. m ∷ line) L))
      ∙ map-map (λ line. beginning ++ line) (λ line. m ∷ line) L
      ∙ map-each _ _ L (λ line. sym (append_assoc beginning (m ∷ []) line)))

  help-cut : battle_of problem.stipulation.form ≡ None → IsSound problem → (phase : Phase) (beginning : List Move) (m : Move)
      → length beginning + 1 ≤ phase_half_moves problem phase → are_legal rule (phase_start problem phase) (beginning ++ m ∷ []) ≡ true → (start : Bool)
      → IsCutInto true problem.max_solutions
      (map (λ line. beginning ++ line) (shown_paths (mode_of problem) (game_of rule problem) start
      (phase_half_moves problem phase - length beginning) (phase_half_moves problem phase - length beginning)
      (path_end (position_after rule) (phase_start problem phase) beginning) (m ∷ [])))
      (part_solutions rule problem phase (beginning ++ m ∷ []))
  help-cut help sound phase beginning m room may start =
      let most : length (beginning ++ m ∷ []) ≤ phase_half_moves problem phase = omega (arith, length-append beginning (m ∷ []), room) in
      let part = help-part help phase (beginning ++ m ∷ []) (is_legal-playable (phase_start problem phase) (start_sound problem sound phase) (beginning ++ m ∷ []) may)
      most (omega (arith, room)) in
      rw (walked help start (phase_half_moves problem phase) (phase_start problem phase) beginning m room, part)
      (lines-cut _ _)

  one-cut : (battle : Battle) → battle_of problem.stipulation.form ≡ Some battle → (phase : Phase) (h : ℕ) → phase_half_moves problem phase ≡ suc h
      → (m : Move)
      → IsCutInto false problem.max_solutions (shown_paths (mode_of problem) (game_of rule problem) true (suc h) (suc h) (phase_start problem phase) (m ∷ []))
      (battle-by battle phase h (m ∷ []))
  one-cut battle fought Set h z m =
      set-cut (game_of rule problem) (mode_of problem) battle fought problem.stipulation.n h problem.max_solutions
      (phase_start problem Set) (m ∷ []) (sym z ∙ ap (λ x. x - 1) (halves-form problem.stipulation.form problem.stipulation.n battle fought))
  one-cut battle fought Play h z m =
      tree-cut (game_of rule problem) (mode_of problem) battle fought problem.stipulation.n h problem.max_solutions
      (phase_start problem Play) (m ∷ []) (sym z ∙ halves-form problem.stipulation.form problem.stipulation.n battle fought)

  with-none : (n h k : ℕ) (p : Position) (ms : List Move) (sols : List (List (List Move))) → h ≡ suc k
      → IsCutInto false n (shown_paths (mode_of problem) (game_of rule problem) true (suc k) (suc k) p ms) sols
      → IsCutInto false n (map (λ line. [] ++ line) (shown_paths (mode_of problem) (game_of rule problem) true (h - 0) (h - 0) p ms)) sols
  with-none n h k p ms sols z c =
      let e : h - 0 ≡ suc k = omega (arith, z) in
      rw (e, map-id (shown_paths (mode_of problem) (game_of rule problem) true (suc k) (suc k) p ms)) c

  battle-cut : (battle : Battle) → battle_of problem.stipulation.form ≡ Some battle → IsSound problem → (phase : Phase) (m : Move)
      → 0 + 1 ≤ phase_half_moves problem phase → are_legal rule (phase_start problem phase) (m ∷ []) ≡ true
      → IsCutInto false problem.max_solutions
      (map (λ line. [] ++ line) (shown_paths (mode_of problem) (game_of rule problem) true
      (phase_half_moves problem phase - 0) (phase_half_moves problem phase - 0) (phase_start problem phase) (m ∷ [])))
      (part_solutions rule problem phase (m ∷ []))
  battle-cut battle fought sound phase m room may =
      let h : ℕ = phase_half_moves problem phase - 1 in
      let z : phase_half_moves problem phase ≡ suc h = omega (arith, room) in
      let c = is_legal-playable (phase_start problem phase) (start_sound problem sound phase) (m ∷ []) may in
      rw (battle-part battle fought phase h z m c.0) (with-none problem.max_solutions (phase_half_moves problem phase) h (phase_start problem phase) (m ∷ [])
      (battle-by battle phase h (m ∷ [])) z (one-cut battle fought phase h z m))

-- after a part's first moves, the last of which is still to be made, the walk shows the part's solutions
abbrev pub IsPartCut : RuleSet → Posed → Phase → Bool → List Move → Move → Type 0
IsPartCut rule problem phase help beginning m = IsCutInto help problem.max_solutions
    (map (λ line. beginning ++ line) (shown_paths (mode_of problem) (chess problem.stipulation.goal rule) (eqb (length beginning) 0)
    (phase_half_moves problem phase - length beginning) (phase_half_moves problem phase - length beginning)
    (path_end (position_after rule) (phase_start problem phase) beginning) (m ∷ []))) (part_solutions rule problem phase (beginning ++ m ∷ []))

-- so it does in help play and in battles
pub part_cut : (rule : RuleSet) (problem : Posed) (sound : IsSound problem) (phase : Phase) (beginning : List Move) (m : Move)
    → length beginning + 1 ≤ phase_half_moves problem phase → (is_help problem.stipulation.form ≡ false → beginning ≡ [])
    → are_legal rule (phase_start problem phase) (beginning ++ m ∷ []) ≡ true → IsPartCut rule problem phase (is_help problem.stipulation.form) beginning m
part_cut rule problem sound phase beginning m room alone may =
    by_play (battle_of problem.stipulation.form) refl
  where
    by_play : (battle : Option Battle) → battle_of problem.stipulation.form ≡ battle → IsPartCut rule problem phase (is_none battle) beginning m
    by_play None help = help-cut rule problem help sound phase beginning m room may (eqb (length beginning) 0)
    by_play (Some battle) fought =
        let Cut : List Move → Type 0 = λ beginning. length beginning + 1 ≤ phase_half_moves problem phase
        → are_legal rule (phase_start problem phase) (beginning ++ m ∷ []) ≡ true → IsPartCut rule problem phase false beginning m in
        subst Cut (sym (alone (ap is_none fought))) (battle-cut rule problem battle fought sound phase m) room may
