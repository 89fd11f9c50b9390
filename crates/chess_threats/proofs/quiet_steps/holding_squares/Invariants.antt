use Rattle.chess_threats.proofs.Chess.{bit_at, false, ℕ, ◌<◌, ◌==◌, ◌≡◌}
use Rattle.chess_flights.proofs.Hurdles.{IsRest}
use Rattle.chess_flights.specs.ties.QuietSteps.{IsStepLeft}
use Rattle.chess_threats.proofs.quiet_steps.holding_squares.Given as goal

abbrev pub invariant-loop-to : goal.invariant-loop-to
invariant-loop-to l = IsRest l.steps l.rest
    × ((t : ℕ) → t < 64 → (bit_at l.squares t == 1) ≡ false → (f : ℕ) × IsStepLeft l.board l.occupancy l.steps l.man t f)

abbrev pub decreases-loop-to : goal.decreases-loop-to
decreases-loop-to l = l.rest
