use Rattle.std.proofs.Common.{◌≡◌, length}
use Rattle.chess_threats.specs.ties.Threats.{AreThreatsOf}
use Rattle.chess_rules.specs.ties.Places.{moves_after}
use Rattle.chess_tests.proofs.defended.rules_out_a_mate.Given as goal

-- no move is played, and the threats still belong to the board
abbrev pub invariant-loop-m : goal.invariant-loop-m
invariant-loop-m g l = (l.board ≡ l.fn.board) × AreThreatsOf g.R.Rules.rule l.fn.board l.threats

-- fewer legal moves are still to come
abbrev pub decreases-loop-m : goal.decreases-loop-m
decreases-loop-m g l = length (moves_after g.R.Rules.rule l.fn.board l.cursor)
