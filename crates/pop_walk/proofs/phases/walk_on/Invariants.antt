use Rattle.pop_walk.proofs.Words.{IsWalking, eqb, not, phase_start, reverse, to_come, walk_work, ◌≡◌}
use Rattle.pop_walk.specs.ties.Counts.{CountsWalk, tries_all}
use Rattle.pop_walk.proofs.phases.walk_on.Given as goal

abbrev pub invariant-loop-frames : goal.invariant-loop-frames
invariant-loop-frames g l = IsWalking g.R.Rules.rule l.fn.walk.half_moves (phase_start l.problem l.fn.walk.phase) (reverse l.frames.items) l.board
    × (to_come g.R.Rules.rule l.fn.walk.mode l.fn.walk.half_moves (phase_start l.problem l.fn.walk.phase) (reverse l.fn.frames.items)
    ≡ to_come g.R.Rules.rule l.fn.walk.mode l.fn.walk.half_moves (phase_start l.problem l.fn.walk.phase) (reverse l.frames.items))
    × CountsWalk (tries_all (not (eqb g.row.PRUNES 0)) l.fn.walk.mode.battle) g.R.Rules.rule l.fn.walk.mode l.fn.walk.half_moves (phase_start l.problem l.fn.walk.phase) (reverse l.fn.frames.items)
    (reverse l.frames.items) l.fn.search_state.opened l.search_state.opened

abbrev pub decreases-loop-frames : goal.decreases-loop-frames
decreases-loop-frames g l = walk_work l.fn.walk.half_moves (reverse l.frames.items)
