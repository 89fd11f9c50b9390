use Rattle.pop_walk.proofs.Words.{IsWalking, Position, length, reverse, take, ℕ, ◌≤◌}
use Rattle.pop_walk.proofs.showing.unplay_all.Given as goal

abbrev pub invariant-loop-k : goal.invariant-loop-k
invariant-loop-k g l = ((h : ℕ) (p : Position) → IsWalking g.R.Rules.rule h p (reverse l.fn.frames) l.fn.board
    → IsWalking g.R.Rules.rule h p (reverse (take l.k l.frames)) l.board) × (l.k ≤ length l.frames)

abbrev pub decreases-loop-k : goal.decreases-loop-k
decreases-loop-k g l = l.k
