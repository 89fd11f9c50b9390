use Rattle.std.proofs.Common.{◌≡◌}
use Rattle.chess_tests.proofs.compared.returns_moves.Given as goal

-- the board stays
abbrev pub invariant-loop-choice : goal.invariant-loop-choice
invariant-loop-choice g l = l.board ≡ l.fn.board
