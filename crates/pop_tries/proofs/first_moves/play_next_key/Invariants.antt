use Rattle.pop_tries.proofs.Words.{length, position_after}
use Rattle.pop_tries.specs.declared.first_moves.Group.TheVariants.{Keys}
use Rattle.pop_tries.specs.ties.FirstMoves.{AreKept, belongs, is_try_after}
use Rattle.pop_tries.specs.ties.MoveSets.{HoldBefore}
use Rattle.pop_tries.specs.ties.Searching.{contest_of}
use Rattle.chess_rules.specs.ties.Places.{moves_after}
use Rattle.pop_tries.proofs.Loops.{NoneSoFar}
use Rattle.pop_tries.proofs.first_moves.play_next_key.Given as goal

-- no move so far is a key, and those that may be tries are noted
abbrev pub invariant-loop-by : goal.invariant-loop-by
invariant-loop-by g l = NoneSoFar g.R.Rules.rule l.fn.desk.board (λ m. belongs g.R.Rules.rule (contest_of l.task) Keys (position_after g.R.Rules.rule l.fn.desk.board m))
    l.fn.place l.place l.desk.board l.fn.desk.frames.items l.desk.frames.items l.cursor
    × HoldBefore g.R.Rules.rule l.fn.desk.board (is_try_after g.R.Rules.rule (contest_of l.task) l.task.most l.fn.desk.board) l.candidates.set l.place
    × AreKept g.R.Rules.rule (contest_of l.task) l.task.most l.fn.desk.board l.candidates.kept

abbrev pub decreases-loop-by : goal.decreases-loop-by
decreases-loop-by g l = length (moves_after g.R.Rules.rule l.fn.desk.board l.place)
