use Rattle.chess_flights.proofs.Chess.{HoldTaken, IsNear, IsReached, IsReachedFrom, bit_at, true, ℕ, ◌<◌, ◌==◌, ◌≡◌}
use Rattle.chess_flights.proofs.Hurdles.{IsRest}
use Rattle.chess_flights.proofs.guards.reach_together.Given as goal

abbrev pub invariant-loop-from : goal.invariant-loop-from
invariant-loop-from l =
    HoldTaken l.squares l.rest (λ s. IsNear l.man s l.region → IsReached l.hurdles l.man s l.reached) × (
    IsRest l.squares l.rest × ((t : ℕ) → t < 64 → (bit_at l.reached t == 1) ≡ true → IsReachedFrom l.hurdles l.man l.squares t))

abbrev pub decreases-loop-from : goal.decreases-loop-from
decreases-loop-from l = l.rest
