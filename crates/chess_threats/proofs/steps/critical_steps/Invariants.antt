use Rattle.chess_threats.proofs.Chess.{HoldTaken, IsSafeStep, bit_at, false, ◌==◌, ◌≡◌}
use Rattle.chess_threats.proofs.steps.critical_steps.Given as goal

abbrev pub invariant-loop-to : goal.invariant-loop-to
invariant-loop-to l = HoldTaken l.steps l.rest (λ t. (bit_at l.critical t == 1) ≡ false → (bit_at l.king_attack.hurdles t == 1) ≡ false → IsSafeStep l.king_attack t)

abbrev pub decreases-loop-to : goal.decreases-loop-to
decreases-loop-to l = l.rest
