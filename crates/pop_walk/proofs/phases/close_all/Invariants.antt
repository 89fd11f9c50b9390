use Rattle.pop_walk.proofs.Words.{IsWalking, Position, length, reverse, ℕ}
use Rattle.pop_walk.proofs.phases.close_all.Given as goal

abbrev pub invariant-loop-top : goal.invariant-loop-top
invariant-loop-top g l = (h : ℕ) (p : Position) → IsWalking g.R.Rules.rule h p (reverse l.fn.frames.items) l.fn.board
    → IsWalking g.R.Rules.rule h p (reverse l.frames.items) l.board

abbrev pub decreases-loop-top : goal.decreases-loop-top
decreases-loop-top g l = length l.frames.items
