use Rattle.chess_mates.proofs.Chess.{DescribesMen, HoldTaken, List, Man, Option, bit_and, false, some_square, true, ◌==◌, ◌≡◌}
use Rattle.chess_flights.proofs.Hurdles.{IsRest}
use Rattle.chess_mates.proofs.parries.parries_between.Given as goal
use Rattle.chess_mates.specs.ties.Parries.{comes}

abbrev pub invariant-loop-square : goal.invariant-loop-square
invariant-loop-square l = IsRest l.between l.rest × (l.nobody_comes ≡ true → ((bit_and l.seen l.held == 0) ≡ true) × HoldTaken l.between l.rest
    (λ t. (men : List (Option Man)) → DescribesMen l.board.men men l.enemy l.occupancy → some_square (comes men l.enemy l.king t) ≡ false))

abbrev pub decreases-loop-square : goal.decreases-loop-square
decreases-loop-square l = l.rest
