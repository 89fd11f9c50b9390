use Rattle.std.proofs.Common.{length}
use Rattle.chess_core.specs.WellFormed.{IsWellFormed}
use Rattle.chess_rules.specs.ties.Places.{moves_after}
use Rattle.search_tests.proofs.plain.wins.Given as goal

-- the position may be played from
abbrev pub invariant-loop-by : goal.invariant-loop-by
invariant-loop-by g l = IsWellFormed l.here

-- fewer tries are still to come
abbrev pub decreases-loop-by : goal.decreases-loop-by
decreases-loop-by g l = length (moves_after g.R.Rules.rule l.here l.tries)
