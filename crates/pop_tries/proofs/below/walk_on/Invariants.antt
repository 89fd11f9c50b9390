use Rattle.pop_tries.proofs.Words.{Position, ◌≡◌}
use Rattle.std.specs.Prelude.{reverse}
use Rattle.pop_walk.specs.ties.Walk.{IsWalking, to_come, walk_work}
use Rattle.pop_tries.proofs.below.walk_on.Given as goal

-- nothing so far is shown
abbrev pub invariant-loop-mode : goal.invariant-loop-mode
invariant-loop-mode g l = (p : Position) → IsWalking g.R.Rules.rule l.half_moves p (reverse l.fn.desk.frames.items) l.fn.desk.board
    → IsWalking g.R.Rules.rule l.half_moves p (reverse l.desk.frames.items) l.desk.board
    × (to_come g.R.Rules.rule l.fn.mode l.half_moves p (reverse l.fn.desk.frames.items)
    ≡ to_come g.R.Rules.rule l.fn.mode l.half_moves p (reverse l.desk.frames.items))

abbrev pub decreases-loop-mode : goal.decreases-loop-mode
decreases-loop-mode g l = walk_work l.half_moves (reverse l.desk.frames.items)
