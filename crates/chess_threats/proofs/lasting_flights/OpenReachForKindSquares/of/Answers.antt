use Rattle.chess_threats.proofs.Chess.{rules, taken_map, taken_on}
use Rattle.chess_threats.proofs.LastingFlights.{reached_left, reached_right}
use Rattle.chess_threats.proofs.lasting_flights.OpenReachForKindSquares.of.Goals as goal

pub loop-from-preserved : goal.loop-from-preserved
loop-from-preserved c =
    search (rules, taken_on, taken_map, reached_left, reached_right, c.pop_first.ensures.taken, c.loop-from.invariant, c.unblocked_reach-more.ensures)
