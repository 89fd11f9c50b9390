use Rattle.chess_flights.proofs.Hurdles.{IsRest}
use Rattle.chess_mates.proofs.every_move.first_unreached.Given as goal

abbrev pub invariant-loop-to : goal.invariant-loop-to
invariant-loop-to l = IsRest l.squares l.rest

abbrev pub decreases-loop-to : goal.decreases-loop-to
decreases-loop-to l = l.rest
