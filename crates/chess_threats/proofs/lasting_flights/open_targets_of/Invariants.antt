use Rattle.chess_threats.proofs.Chess.{HoldTaken}
use Rattle.chess_threats.specs.ties.LastingFlights.{AreTargets}
use Rattle.chess_threats.proofs.lasting_flights.open_targets_of.Given as goal

abbrev pub invariant-loop-from : goal.invariant-loop-from
invariant-loop-from l = HoldTaken l.squares l.rest (λ s. AreTargets (record { colour = l.fn.colour; kind = l.fn.kind }) s l.targets)

abbrev pub decreases-loop-from : goal.decreases-loop-from
decreases-loop-from l = l.rest
