use Rattle.chess_core.specs.WellFormed.{IsWellFormed}
use Rattle.chess_tests.proofs.survey.unlike_on_the_way.Given as goal

-- each position on the way may be played from
abbrev pub invariant-loop-half_moves : goal.invariant-loop-half_moves
invariant-loop-half_moves g l = IsWellFormed l.board
