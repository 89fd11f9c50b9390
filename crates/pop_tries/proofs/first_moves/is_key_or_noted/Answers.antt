use Rattle.pop_tries.proofs.Words.{sym, ◌∙◌}
use Rattle.pop_tries.specs.ties.Searching.{contest_of}
use Rattle.pop_tries.proofs.Counts.{refuting_is_kept}
use Rattle.pop_tries.proofs.Candidates.{counted_try, refuted_no_key, unrefuted_key}
use Rattle.pop_tries.proofs.first_moves.is_key_or_noted.Goals as goal

pub returns-then-tally-eq0-clause-key : goal.returns-then-tally-eq0-clause-key
returns-then-tally-eq0-clause-key g c =
    let rule = g.R.Rules.rule in
    let contest = contest_of c.args.task.now in
    let counted = rw (c.contest-contest.ensures, c.are_two_refutations.ensures.rest.board) at c.count_refutations-tally.ensures.count in
    sym c.if-is_key_unrefuted.false
    ∙ unrefuted_key rule contest c.args.desk.now.board _ _ _ counted c.if-tally-eq0.true
    (rw (c.contest-contest.ensures, c.count_refutations-tally.ensures.rest.board, c.are_two_refutations.ensures.rest.board) at c.is_key_unrefuted.ensures.key)

pub returns-then-tally-task-clause-key : goal.returns-then-tally-task-clause-key
returns-then-tally-task-clause-key g c =
    let counted = rw (c.contest-contest.ensures, c.are_two_refutations.ensures.rest.board) at c.count_refutations-tally.ensures.count in
    refuted_no_key g.R.Rules.rule (contest_of c.args.task.now) c.args.desk.now.board _ _ counted c.if-tally-eq0.false

pub returns-else-tally-task-clause-key : goal.returns-else-tally-task-clause-key
returns-else-tally-task-clause-key g c =
    let counted = rw (c.contest-contest.ensures, c.are_two_refutations.ensures.rest.board) at c.count_refutations-tally.ensures.count in
    refuted_no_key g.R.Rules.rule (contest_of c.args.task.now) c.args.desk.now.board _ _ counted c.if-tally-eq0.false

pub returns-then-tally-task-clause-refuting : goal.returns-then-tally-task-clause-refuting
returns-then-tally-task-clause-refuting g c =
    let rule = g.R.Rules.rule in
    let contest = contest_of c.args.task.now in
    let rest = c.are_two_refutations.ensures.rest.board in
    let counted = rw (c.contest-contest.ensures, rest) at c.count_refutations-tally.ensures.count in (
      counted_try rule contest c.args.desk.now.board c.args.task.now.most _ counted c.if-tally-eq0.false c.if-tally-task.true,
      refuting_is_kept rule contest c.args.desk.now.board _ _ _ c.refuting_kept.ensures ((rw (c.contest-contest.ensures, rest) at c.count_refutations-tally.ensures.held) c.if-tally-task.true) (rw (c.contest-contest.ensures, rest) at c.count_refutations-tally.ensures.last),
    )
