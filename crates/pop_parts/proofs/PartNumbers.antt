-- The parts of a phase by their numbers, and how many there are.
use Rattle.pop_parts.proofs.Words.{Bool, Phase, Posed, Position, RuleSet, [], arith, beginnings, chess, eqb, false, half_moves, is_impossible_phase, not, part_depth, parts, phase_half_moves, phase_start, refl, true, ℕ, ◌||◌, ◌≡◌, ◌≤◌}
use Rattle.pop_stipulation.specs.declared.stipulation.Goal.{Goal}

-- the moves that distinguish parts are one or more, and at most the half-moves
pub depth-fits : (problem : Posed) (phase : Phase) (depth : ℕ) → 1 ≤ depth → 1 ≤ phase_half_moves problem phase
    → (1 ≤ part_depth problem phase depth) × (part_depth problem phase depth ≤ phase_half_moves problem phase)
depth-fits problem phase depth some more = grind arith

-- no phase has more half-moves than the play
pub half-moves-most : (problem : Posed) (phase : Phase) → phase_half_moves problem phase ≤ half_moves problem.stipulation
half-moves-most problem phase = grind arith

-- a phase that has parts has half-moves
pub some-half-moves : (barred : Bool) (h : ℕ) → (barred || eqb h 0) ≡ false → 1 ≤ h
some-half-moves barred h e = grind arith

module _ (rule : RuleSet) (problem : Posed) (phase : Phase) (depth : ℕ) where
  abbrev d : ℕ
  d = part_depth problem phase depth

  abbrev h : ℕ
  h = phase_half_moves problem phase

  abbrev p : Position
  p = phase_start problem phase

  abbrev goal : Goal
  goal = problem.stipulation.goal

  -- a phase that can't stand or has no half-move has no parts
  pub no-parts : (is_impossible_phase rule problem phase || eqb h 0) ≡ true → parts rule problem phase depth ≡ []
  unfolding parts
  no-parts none = rw none refl

  -- any other has all beginnings
  pub all-parts : (is_impossible_phase rule problem phase || eqb h 0) ≡ false → parts rule problem phase depth ≡ beginnings (chess goal rule) d p
  unfolding parts
  all-parts some = rw some refl

-- whether a phase has parts, by the answer of the call that sets out
pub has-none : (b r : Bool) → r ≡ not b → r ≡ false → b ≡ true
has-none b r e f = grind arith

-- a phase that was set out has parts
pub has-some : (b r : Bool) → r ≡ not b → r ≡ true → b ≡ false
has-some b r e f = grind arith
