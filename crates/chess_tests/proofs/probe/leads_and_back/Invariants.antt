use Rattle.std.proofs.Common.{◌≡◌, length}
use Rattle.chess_core.specs.Diagrams.{position_of}
use Rattle.chess_rules.specs.ties.Places.{moves_after}
use Rattle.chess_tests.proofs.probe.leads_and_back.Given as goal

-- the board is the diagram's
abbrev pub invariant-loop-m : goal.invariant-loop-m
invariant-loop-m g l = l.board ≡ position_of l.fn.diagram

-- fewer legal moves are still to come
abbrev pub decreases-loop-m : goal.decreases-loop-m
decreases-loop-m g l = length (moves_after g.R.Rules.rule (position_of l.fn.diagram) l.cursor)
