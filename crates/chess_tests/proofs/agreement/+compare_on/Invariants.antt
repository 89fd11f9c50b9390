use Rattle.std.proofs.Common.{◌≡◌, length}
use Rattle.chess_rules.specs.ties.Places.{moves_after}
use Rattle.chess_tests.proofs.agreement.+compare_on.Given as goal

-- each call looks one move less far
abbrev pub decreases-compare_on : goal.decreases-compare_on
decreases-compare_on g l = l.length

-- each move tried is taken back
abbrev pub invariant-loop-m : goal.invariant-loop-m
invariant-loop-m g l = l.board ≡ l.fn.board

-- fewer legal moves are still to come
abbrev pub decreases-loop-m : goal.decreases-loop-m
decreases-loop-m g l = length (moves_after g.R.Rules.rule l.fn.board l.cursor)
