use Rattle.std.proofs.Common.{length}
use Rattle.chess_core.specs.WellFormed.{IsWellFormed}
use Rattle.chess_rules.specs.ties.Places.{moves_after}
use Rattle.search_tests.proofs.plain.keeps.Given as goal

-- the position may be played from
abbrev pub invariant-loop-defence : goal.invariant-loop-defence
invariant-loop-defence g l = IsWellFormed l.here

-- fewer defences are still to come
abbrev pub decreases-loop-defence : goal.decreases-loop-defence
decreases-loop-defence g l = length (moves_after g.R.Rules.rule l.here l.defences)
