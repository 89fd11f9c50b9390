use Rattle.pop_tries.proofs.Words.{length}
use Rattle.pop_tries.specs.ties.FirstMoves.{is_shown}
use Rattle.chess_rules.specs.ties.Places.{moves_after}
use Rattle.pop_tries.proofs.Loops.{NoneSoFar}
use Rattle.pop_tries.proofs.first_moves.next_reply.Given as goal

-- no reply so far is shown
abbrev pub invariant-loop-by : goal.invariant-loop-by
invariant-loop-by g l = NoneSoFar g.R.Rules.rule l.fn.desk.board (is_shown g.R.Rules.rule l.fn.contest l.fn.desk.board) l.fn.place l.place l.desk.board l.fn.desk.frames.items
    l.desk.frames.items l.cursor

abbrev pub decreases-loop-by : goal.decreases-loop-by
decreases-loop-by g l = length (moves_after g.R.Rules.rule l.fn.desk.board l.place)
