-- The paths of a phase's solutions.
use Rattle.pop_walk.proofs.Words.{AllPairs, List, None, Phase, Posed, RuleSet, [], battle_of, drop, flat_map, flat_map-append, game_of, help_lines, pairs_front, phase_half_moves, phase_start, solutions, take, take-append-drop, ℕ, ◌∷◌, ◌≡◌, flat_map_single, ◌∙◌, map-id, flat_map-map}

-- the first of joined lists
pub first_joined : {X : Type 0} (R : X → X → Type 0) (n : ℕ) (xss : List (List X)) → AllPairs R (flat_map (λ s. s) xss)
    → AllPairs R (flat_map (λ s. s) (take n xss))
first_joined R n xss pairs = pairs_front R (flat_map (λ s. s) (take n xss)) (flat_map (λ s. s) (drop n xss))
    (rw (← flat_map-append (λ s. s) (take n xss) (drop n xss), take-append-drop n xss) pairs)

-- the paths of help play are its lines
pub help_paths : (rule : RuleSet) (problem : Posed) (phase : Phase) → battle_of problem.stipulation.form ≡ None
    → flat_map (λ s. s) (solutions rule problem phase) ≡ help_lines (game_of rule problem) (phase_half_moves problem phase) (phase_start problem phase)
unfolding solutions
help_paths rule problem phase help = rw help (flat_map-map (λ s. s) (λ x. x ∷ []) _ ∙ flat_map_single (λ x. x) _ ∙ map-id _)
