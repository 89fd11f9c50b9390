use Rattle.pop_tries.proofs.Words.{length, position_after}
use Rattle.pop_tries.specs.declared.first_moves.Group.TheVariants.{Tries}
use Rattle.pop_tries.specs.ties.FirstMoves.{belongs}
use Rattle.pop_tries.specs.ties.Searching.{contest_of}
use Rattle.chess_rules.specs.ties.Places.{moves_after}
use Rattle.pop_tries.proofs.Loops.{NoneSoFar}
use Rattle.pop_tries.proofs.first_moves.play_next_try.Given as goal

-- no move so far is a try
abbrev pub invariant-loop-by : goal.invariant-loop-by
invariant-loop-by g l = NoneSoFar g.R.Rules.rule l.fn.desk.board
    (λ m. belongs g.R.Rules.rule (contest_of l.task) (Tries l.task.most) (position_after g.R.Rules.rule l.fn.desk.board m))
    l.fn.place l.place l.desk.board l.fn.desk.frames.items l.desk.frames.items l.cursor

abbrev pub decreases-loop-by : goal.decreases-loop-by
decreases-loop-by g l = length (moves_after g.R.Rules.rule l.fn.desk.board l.place)
