use Rattle.std.proofs.Common.{◌≡◌}
use Rattle.chess_rules.specs.ties.Places.{IsPlaceIn}
use Rattle.chess_tests.proofs.compared.place_after.Given as goal

-- the board stays, and the cursor is one over its legal moves
abbrev pub invariant-loop-move : goal.invariant-loop-move
invariant-loop-move g l = (l.board ≡ l.fn.board) × IsPlaceIn g.R.Rules.rule l.fn.board l.cursor
