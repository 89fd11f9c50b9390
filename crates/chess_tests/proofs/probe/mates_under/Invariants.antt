use Rattle.std.proofs.Common.{◌≡◌, length}
use Rattle.chess_core.specs.Diagrams.{position_of}
use Rattle.chess_mates.specs.ties.MatingPlaces.{IsMatingPlaceIn}
use Rattle.chess_flights.specs.ties.Mates.{mates_after}
use Rattle.chess_tests.proofs.probe.mates_under.Given as goal

-- the board is the diagram's, and the cursor is one over its mating moves
abbrev pub invariant-loop-m : goal.invariant-loop-m
invariant-loop-m g l = record {
  board : l.board ≡ position_of l.fn.diagram;
  place : IsMatingPlaceIn g.R.Rules.rule (position_of l.fn.diagram) l.cursor;
}

-- fewer mating moves are still to come
abbrev pub decreases-loop-m : goal.decreases-loop-m
decreases-loop-m g l = length (mates_after g.R.Rules.rule (position_of l.fn.diagram) l.cursor.place)
