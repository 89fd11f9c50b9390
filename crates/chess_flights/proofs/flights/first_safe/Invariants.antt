use Rattle.chess_flights.proofs.Chess.{DescribesMen, HoldTaken, List, Man, Option, is_reached, occupancy_with, true, ◌≡◌}
use Rattle.chess_flights.proofs.Hurdles.{IsRest}
use Rattle.chess_flights.proofs.flights.first_safe.Given as goal

abbrev pub invariant-loop-square : goal.invariant-loop-square
invariant-loop-square l = IsRest l.squares l.rest × HoldTaken l.squares l.rest
    (λ t. (men : List (Option Man)) → DescribesMen l.board.men men l.colour (occupancy_with l.occupancy t) → is_reached men t l.colour ≡ true)

abbrev pub decreases-loop-square : goal.decreases-loop-square
decreases-loop-square l = l.rest
