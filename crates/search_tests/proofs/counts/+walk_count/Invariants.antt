use Rattle.std.proofs.Common.{length}
use Rattle.chess_core.specs.WellFormed.{IsWellFormed}
use Rattle.chess_rules.specs.ties.Places.{moves_after}
use Rattle.search_tests.proofs.counts.+walk_count.Given as goal

-- each call has fewer half-moves left
abbrev pub decreases-walk_count : goal.decreases-walk_count
decreases-walk_count g l = l.half_moves

-- the position may be played from
abbrev pub invariant-loop-by : goal.invariant-loop-by
invariant-loop-by g l = IsWellFormed l.here

-- fewer legal moves are still to come
abbrev pub decreases-loop-by : goal.decreases-loop-by
decreases-loop-by g l = length (moves_after g.R.Rules.rule l.here l.moves)
