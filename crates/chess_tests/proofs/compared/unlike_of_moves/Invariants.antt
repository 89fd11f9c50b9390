use Rattle.std.proofs.Common.{◌≡◌}
use Rattle.chess_tests.proofs.compared.unlike_of_moves.Given as goal

-- the board stays
abbrev pub invariant-loop-skipped : goal.invariant-loop-skipped
invariant-loop-skipped g l = l.board ≡ l.fn.board
