use Rattle.pop_tries.proofs.Words.{rules}
use Rattle.pop_tries.specs.ties.FirstMoves.{is_shown}
use Rattle.pop_tries.proofs.Loops.{first_fails, first_of_all}
use Rattle.pop_tries.proofs.first_moves.next_reply.Goals as goal

pub returns-then-is_shown-clause-next : goal.returns-then-is_shown-clause-next
returns-then-is_shown-clause-next g c =
    let next = rw c.loop-by.invariant.0 at c.in-Some.ensures.next in
    (first_of_all (is_shown g.R.Rules.rule c.args.contest c.args.desk.now.board) c.in-Some.by _ _ next.0 _ (search rules) c.loop-by.invariant.3, next.1)

pub loop-by-preserved : goal.loop-by-preserved
loop-by-preserved g c =
    let next = rw c.loop-by.invariant.0 at c.in-Some.ensures.next in (
      search rules,
      search rules,
      search rules,
      first_fails (is_shown g.R.Rules.rule c.args.contest c.args.desk.now.board) c.in-Some.by _ _ next.0 _ (search rules) c.loop-by.invariant.3,
    )
