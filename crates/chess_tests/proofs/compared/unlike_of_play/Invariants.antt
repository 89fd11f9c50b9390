use Rattle.std.proofs.Common.{◌≡◌, length}
use Rattle.chess_rules.specs.ties.Places.{moves_after}
use Rattle.chess_tests.proofs.compared.unlike_of_play.Given as goal

-- each move tried is taken back
abbrev pub invariant-loop-m : goal.invariant-loop-m
invariant-loop-m g l = l.board ≡ l.fn.board

-- fewer legal moves are still to come
abbrev pub decreases-loop-m : goal.decreases-loop-m
decreases-loop-m g l = length (moves_after g.R.Rules.rule l.fn.board l.cursor)
