use Rattle.chess_threats.proofs.Chess.{HoldTaken, IsLeft, ℕ}
use Rattle.chess_threats.proofs.lasting_flights.leaves_one_each.Given as goal

abbrev pub invariant-loop-to : goal.invariant-loop-to
invariant-loop-to l = HoldTaken l.targets l.rest (λ t. (f : ℕ) × IsLeft l.squares l.man t f)

abbrev pub decreases-loop-to : goal.decreases-loop-to
decreases-loop-to l = l.rest
