use Rattle.chess_threats.proofs.Chess.{HoldTaken, KeepsFlight, bit_at, false, ◌==◌, ◌≡◌}
use Rattle.chess_threats.proofs.steps.flightless_steps.Given as goal

abbrev pub invariant-loop-to : goal.invariant-loop-to
invariant-loop-to g l = HoldTaken l.steps l.rest (λ t. (bit_at l.flightless t == 1) ≡ false → KeepsFlight g.R.Rules.rule l.king_attack t)

abbrev pub decreases-loop-to : goal.decreases-loop-to
decreases-loop-to g l = l.rest
