-- The parts of a phase, by the first moves of its solutions: joined they are the phase, and no solution is
-- in two of them.
use Rattle.pop_parts.proofs.Words.{AllPairs, Contains, IsSound, List, Move, Phase, Posed, Precedes, RuleSet, StandsBefore, ap, arith, begins_so, count_by, false, flat_map, is_impossible_phase, length, length-take, min, never_before_itself, pairs_weaker, part_count, part_depth, part_solutions, parts, phase_count, phase_half_moves, phase_start, refl, solutions, start_sound, sum_by, sym, take, ℕ, ◌↔◌, ◌∙◌, ◌≡◌, ◌≢◌, ◌≤◌}
use Rattle.std.proofs.lemmas.List.Concat.{length-flat_map}
use Rattle.std.proofs.lemmas.List.Sums.{length-filter}
use Rattle.pop_parts.proofs.PartLists.{first-of-firsts}
use Rattle.pop_parts.proofs.PartsJoined.{joined, once, parts-are, parts-stand}
use Rattle.chess_rules.proofs.theorems.Moves.{never_precedes_itself}
use Rattle.pop_walk.proofs.theorems.HelpLines.{IsLegalLine, playable_is_legal}

module _ (rule : RuleSet) (problem : Posed) (phase : Phase) (depth : ℕ) where
  -- The parts of a phase come in lexicographic order of the moves.
  pub parts_in_order : AllPairs (StandsBefore Precedes) (parts rule problem phase depth)
  parts_in_order = parts-stand rule problem phase depth

  -- No two parts are equal.
  pub parts_differ : AllPairs (λ a b. a ≢ b) (parts rule problem phase depth)
  parts_differ = pairs_weaker (StandsBefore Precedes) (λ a b. a ≢ b) (parts rule problem phase depth)
      (never_before_itself Precedes never_precedes_itself) parts_in_order

-- A sound problem, one of its possible phases, and any number of moves that distinguish its parts.
module _ (rule : RuleSet) (problem : Posed) (phase : Phase) (depth : ℕ) (free : is_impossible_phase rule problem phase ≡ false) (sound : IsSound problem) where
  -- The parts are the lists of this many moves, each legal in its position; if the phase has no half-move
  -- there is none.
  pub parts_are : (beginning : List Move)
      → Contains (parts rule problem phase depth) beginning
      ↔ ((1 ≤ phase_half_moves problem phase) × IsLegalLine rule (phase_start problem phase) beginning × (length beginning ≡ part_depth problem phase depth))
  parts_are beginning =
      let are = parts-are rule problem phase depth free (phase_half_moves problem phase) refl beginning in
      let may = playable_is_legal problem.stipulation.goal rule (phase_start problem phase) beginning (start_sound problem sound phase) in
      (λ c. let w = are.0 c in (w.0, may.0 w.1, w.2), λ w. are.1 (w.0, may.1 w.1, w.2))

  -- The solutions of the parts, one part after another, are the solutions of the phase, in the same order.
  pub parts_joined : flat_map (part_solutions rule problem phase) (parts rule problem phase depth) ≡ solutions rule problem phase
  parts_joined = joined rule problem phase depth free sound

  -- Each solution of the phase begins as exactly one of the parts does.
  pub in_one_part : (solution : List (List Move)) → Contains (solutions rule problem phase) solution
      → count_by (λ beginning. begins_so beginning solution) (parts rule problem phase depth) ≡ 1
  in_one_part solution c = sym (length-filter (λ beginning. begins_so beginning solution) (parts rule problem phase depth))
      ∙ once rule problem phase depth free sound solution c

  -- If each part is searched up to a limit, the first of all these solutions, up to that limit, are the
  -- first solutions of the phase.
  pub first_of_parts : (n : ℕ)
      → take n (flat_map (λ beginning. take n (part_solutions rule problem phase beginning)) (parts rule problem phase depth))
      ≡ take n (solutions rule problem phase)
  first_of_parts n = first-of-firsts (part_solutions rule problem phase) n n (omega arith) (parts rule problem phase depth) ∙ ap (take n) parts_joined

  -- The phase's number of solutions, up to the problem's limit, is the sum of the parts' numbers, up to
  -- that limit.
  pub counted_by_parts : phase_count rule problem phase
      ≡ min problem.max_solutions (sum_by (part_count rule problem phase) (parts rule problem phase depth))
  counted_by_parts =
      let n : ℕ = problem.max_solutions in
      let firsts = flat_map (λ beginning. take n (part_solutions rule problem phase beginning)) (parts rule problem phase depth) in
      ap length (sym (first_of_parts n)) ∙ length-take n firsts
      ∙ ap (min n) (length-flat_map (λ beginning. take n (part_solutions rule problem phase beginning)) (parts rule problem phase depth))
