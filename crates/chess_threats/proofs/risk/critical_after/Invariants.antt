use Rattle.chess_threats.proofs.Chess.{HoldTaken, LeavesOne}
use Rattle.chess_threats.proofs.risk.critical_after.Given as goal

abbrev pub invariant-loop-to : goal.invariant-loop-to
invariant-loop-to l = HoldTaken l.targets l.rest (λ t. LeavesOne l.near l.enemies l.critical l.man t)

abbrev pub decreases-loop-to : goal.decreases-loop-to
decreases-loop-to l = l.rest
