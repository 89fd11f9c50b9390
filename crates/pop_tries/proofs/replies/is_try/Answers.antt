use Rattle.pop_tries.proofs.Words.{sym}
use Rattle.pop_tries.proofs.Contests.{not_zero, try_by_count}
use Rattle.pop_tries.proofs.replies.is_try.Goals as goal

pub returns-clause-tried : goal.returns-clause-tried
returns-clause-tried g c = sym (try_by_count c.args.contest.battle c.args.contest.stipulation.goal g.R.Rules.rule c.args.contest.stipulation.n c.args.desk.now.board _ _
    c.count_refutations-tally.ensures.count (not_zero _ c.if-tally-eq0.false))
