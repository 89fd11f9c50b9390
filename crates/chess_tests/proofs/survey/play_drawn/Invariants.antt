use Rattle.std.proofs.Common.{◌≡◌}
use Rattle.chess_tests.proofs.survey.play_drawn.Given as goal

-- the board stays while moves are skipped
abbrev pub invariant-loop-skipped : goal.invariant-loop-skipped
invariant-loop-skipped g l = l.board ≡ l.fn.board
