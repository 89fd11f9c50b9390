use Rattle.chess_threats.proofs.Chess.{HoldTaken, IsHarmless}
use Rattle.chess_threats.proofs.risk.risk_together.Given as goal

abbrev pub invariant-loop-from : goal.invariant-loop-from
invariant-loop-from l = HoldTaken l.squares l.rest (λ s. IsHarmless l.king_attack l.king_zone l.checks (record { critical = l.critical; lines = l.lines }) l.man s)

abbrev pub decreases-loop-from : goal.decreases-loop-from
decreases-loop-from l = l.rest
