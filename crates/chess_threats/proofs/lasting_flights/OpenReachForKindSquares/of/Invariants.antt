use Rattle.chess_threats.proofs.Chess.{HoldTaken}
use Rattle.chess_attacks.specs.ties.Lines.{AreReached}
use Rattle.chess_threats.proofs.lasting_flights.OpenReachForKindSquares.of.Given as goal

abbrev pub invariant-loop-from : goal.invariant-loop-from
invariant-loop-from l = HoldTaken l.squares l.rest (λ s. AreReached (record { colour = l.fn.self.colour; kind = l.fn.kind }) s l.reached)

abbrev pub decreases-loop-from : goal.decreases-loop-from
decreases-loop-from l = l.rest
