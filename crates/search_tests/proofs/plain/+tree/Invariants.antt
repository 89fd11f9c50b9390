use Rattle.std.proofs.Common.{◌+◌, ◌*◌, length}
use Rattle.chess_core.specs.WellFormed.{IsWellFormed}
use Rattle.chess_rules.specs.ties.Places.{moves_after}
use Rattle.search_tests.proofs.plain.+tree.Given as goal

-- White's call comes before Black's with as many moves left
abbrev pub decreases-white : goal.decreases-white
decreases-white g l = 2 * l.left + 1

-- and Black's before White's with one less
abbrev pub decreases-black : goal.decreases-black
decreases-black g l = 2 * l.left

-- the position may be played from
abbrev pub invariant-white-loop-by : goal.invariant-white-loop-by
invariant-white-loop-by g l = IsWellFormed l.here

-- fewer tries are still to come
abbrev pub decreases-white-loop-by : goal.decreases-white-loop-by
decreases-white-loop-by g l = length (moves_after g.R.Rules.rule l.here l.tries)

-- the position may be played from
abbrev pub invariant-black-loop-defence : goal.invariant-black-loop-defence
invariant-black-loop-defence g l = IsWellFormed l.here

-- fewer defences are still to come
abbrev pub decreases-black-loop-defence : goal.decreases-black-loop-defence
decreases-black-loop-defence g l = length (moves_after g.R.Rules.rule l.here l.defences)
