use Rattle.pop_parts.proofs.Words.{phase_half_moves, phase_start, reverse, walk_work}
use Rattle.pop_parts.proofs.Seeking.{CountsOn}
use Rattle.pop_parts.proofs.beginnings.count_to_come.Given as goal

abbrev pub invariant-loop-board : goal.invariant-loop-board
invariant-loop-board g l = CountsOn g.R.Rules.rule (phase_half_moves l.problem l.fn.phase) l.depth (phase_start l.problem l.fn.phase)
    (reverse l.fn.frames.items) (reverse l.frames.items) l.board l.count

abbrev pub decreases-loop-board : goal.decreases-loop-board
decreases-loop-board g l = walk_work l.depth (reverse l.frames.items)
