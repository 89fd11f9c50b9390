use Rattle.std.proofs.Common.{length}
use Rattle.chess_core.specs.WellFormed.{IsWellFormed}
use Rattle.chess_rules.specs.ties.Places.{moves_after}
use Rattle.search_tests.proofs.plain.+self_wins.Given as goal

-- each call has fewer moves left
abbrev pub decreases-self_wins : goal.decreases-self_wins
decreases-self_wins g l = l.moves

-- the position may be played from
abbrev pub invariant-loop-by : goal.invariant-loop-by
invariant-loop-by g l = IsWellFormed l.here

-- fewer tries are still to come
abbrev pub decreases-loop-by : goal.decreases-loop-by
decreases-loop-by g l = length (moves_after g.R.Rules.rule l.here l.tries)

-- the position after the try may be played from
abbrev pub invariant-loop-defence : goal.invariant-loop-defence
invariant-loop-defence g l = IsWellFormed l.there

-- fewer defences are still to come
abbrev pub decreases-loop-defence : goal.decreases-loop-defence
decreases-loop-defence g l = length (moves_after g.R.Rules.rule l.there l.defences)
