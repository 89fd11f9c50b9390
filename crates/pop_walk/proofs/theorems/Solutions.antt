-- The solutions of a chess problem: which lines and keys they are, that no path of a phase comes twice, and
-- in which order the paths come.
use Rattle.pop_walk.proofs.Words.{AllPairs, Battle, Contains, IsSound, List, Move, None, Option, Phase, Play, Posed, Precedes, RuleSet, Set, Some, [], battle_of, game_of, is_goal_reached, is_legal, keeps_win, length, moves_are_the_legal_moves, moves_in_order, never_precedes_itself, pairs_weaker, path_end, phase_half_moves, phase_start, play_start, refl, rules, is_in_set_play, solutions, take, true, ◌↔◌, ◌∷◌, ◌≡◌, ◌≢◌, ◌≤◌, position_after}
use Rattle.pop_walk.proofs.PhasePaths.{first_joined, help_paths}
use Rattle.pop_walk.proofs.Sound.{start_sound}
use Rattle.pop_walk.proofs.theorems.HelpLines.{IsLegalLine, help_lines_of_chess_are, help_lines_of_chess_in_order}
use Rattle.pop_walk.proofs.theorems.Lists.{HasBeginnings, StandsBefore, never_before_itself, paths}
use Rattle.pop_walk.proofs.theorems.Trees.{first_set_solutions_have_beginnings, first_solutions_have_beginnings, keys_are, play_has_beginnings, play_in_order, set_play_has_beginnings, set_play_in_order, set_play_is}

module _ (rule : RuleSet) (problem : Posed) where
  -- Help play: a list of moves is a line of a phase of a sound problem exactly if it has as many moves as
  -- the phase has half-moves, one or more, each legal in its position, and the goal is reached in its last
  -- position.
  pub lines_of_a_phase_are : (phase : Phase) (line : List Move) → IsSound problem → battle_of problem.stipulation.form ≡ None
      → Contains (paths (solutions rule problem phase)) line
      ↔ ((1 ≤ phase_half_moves problem phase) × (length line ≡ phase_half_moves problem phase) × IsLegalLine rule (phase_start problem phase) line
      × (is_goal_reached problem.stipulation.goal rule (path_end (position_after rule) (phase_start problem phase) line) ≡ true))
  lines_of_a_phase_are phase line sound help = rw (help_paths rule problem phase help) (search (rules, help_lines_of_chess_are, start_sound))

  -- Battle play: a move is a key of a sound problem exactly if it is legal and keeps the win within the
  -- problem's number of moves.
  pub keys_of_a_problem_are : (m : Move) (battle : Battle) → IsSound problem → battle_of problem.stipulation.form ≡ Some battle
      → Contains (paths (solutions rule problem Play)) (m ∷ []) ↔ ((is_legal rule (play_start problem) m ≡ true)
      × (keeps_win battle (game_of rule problem) problem.stipulation.n (position_after rule (play_start problem) m) ≡ true))
  unfolding solutions
  keys_of_a_problem_are m battle sound fought =
      let game = game_of rule problem in
      let are = keys_are battle game problem.stipulation.n problem.variation (phase_half_moves problem Play) (play_start problem) m in
      let legal = moves_are_the_legal_moves rule (play_start problem) m (start_sound problem sound Play) in
      rw fought (λ c. let w = are.0 c in (legal.0 w.0, w.1), λ w. are.1 (legal.1 w.0, w.1))

  -- Set play: a move by Black is a first move exactly if set play has half-moves, the move is legal in its
  -- first position, and after it the goal is reached, if Black is to reach it, or White wins with one move
  -- less.
  pub set_moves_of_a_problem_are : (d : Move) (battle : Battle) → IsSound problem → battle_of problem.stipulation.form ≡ Some battle
      → Contains (paths (solutions rule problem Set)) (d ∷ []) ↔ ((1 ≤ phase_half_moves problem Set) × (is_legal rule (phase_start problem Set) d ≡ true)
      × (is_in_set_play battle (game_of rule problem) problem.stipulation.n (position_after rule (phase_start problem Set) d) ≡ true))
  unfolding solutions
  set_moves_of_a_problem_are d battle sound fought =
      let game = game_of rule problem in
      let from = phase_start problem Set in
      let are = set_play_is battle game problem.stipulation.n problem.variation (phase_half_moves problem Set) from d in
      let legal = moves_are_the_legal_moves rule from d (start_sound problem sound Set) in
      rw fought (λ c. let w = are.0 c in (w.0, legal.0 w.1, w.2), λ w. are.1 (w.0, legal.1 w.1, w.2))

  by_play : (battle : Option Battle) → battle_of problem.stipulation.form ≡ battle → (phase : Phase)
      → AllPairs (StandsBefore Precedes) (paths (solutions rule problem phase))
  unfolding solutions
  by_play None help phase = rw (help_paths rule problem phase help) (search (rules, help_lines_of_chess_in_order))
  by_play (Some battle) fought Play = rw fought (search (rules, play_in_order, moves_in_order))
  by_play (Some battle) fought Set = rw fought (search (rules, set_play_in_order, moves_in_order))

  -- The paths of each phase come in lexicographic order of the moves: lines in order, and in trees each
  -- node before the nodes below it, and these before its next sibling.
  pub paths_in_order : (phase : Phase) → AllPairs (StandsBefore Precedes) (paths (solutions rule problem phase))
  paths_in_order phase = by_play _ refl phase

  -- No two paths of a phase are equal.
  pub paths_differ : (phase : Phase) → AllPairs (λ a b. a ≢ b) (paths (solutions rule problem phase))
  paths_differ phase = search (rules, pairs_weaker, never_before_itself Precedes never_precedes_itself, never_precedes_itself, paths_in_order phase)

  -- The shown paths, of the first solutions up to the limit, come in this order too.
  pub shown_paths_in_order : (phase : Phase) → AllPairs (StandsBefore Precedes) (paths (take problem.max_solutions (solutions rule problem phase)))
  shown_paths_in_order phase = first_joined (StandsBefore Precedes) problem.max_solutions (solutions rule problem phase) (paths_in_order phase)

  -- No two shown paths are equal.
  pub shown_paths_differ : (phase : Phase) → AllPairs (λ a b. a ≢ b) (paths (take problem.max_solutions (solutions rule problem phase)))
  shown_paths_differ phase = first_joined (λ a b. a ≢ b) problem.max_solutions (solutions rule problem phase) (paths_differ phase)

  -- In battle play each beginning of a path is a path too: no node comes without the nodes above it.
  pub nodes_stand_below_their_parents : (phase : Phase) (battle : Battle) → battle_of problem.stipulation.form ≡ Some battle
      → HasBeginnings (paths (solutions rule problem phase))
  unfolding solutions
  nodes_stand_below_their_parents Play battle fought = rw fought (search (rules, play_has_beginnings))
  nodes_stand_below_their_parents Set battle fought = rw fought (search (rules, set_play_has_beginnings))

  -- Each beginning of a shown path is shown too, even if the limit cuts the solutions.
  pub shown_nodes_stand_below_their_parents : (phase : Phase) (battle : Battle) → battle_of problem.stipulation.form ≡ Some battle
      → HasBeginnings (paths (take problem.max_solutions (solutions rule problem phase)))
  unfolding solutions
  shown_nodes_stand_below_their_parents Play battle fought = rw fought (search (rules, first_solutions_have_beginnings))
  shown_nodes_stand_below_their_parents Set battle fought = rw fought (search (rules, first_set_solutions_have_beginnings))
