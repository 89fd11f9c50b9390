use Rattle.pop_tries.proofs.Counts.{held_in_parts}
use Rattle.pop_tries.proofs.Words.{subst, sym, Some, ◌≤◌}
use Rattle.pop_tries.specs.declared.replies.Counted.TheVariants.{Others}
use Rattle.pop_tries.specs.ties.FirstMoves.{refutes_among}
use Rattle.pop_tries.specs.ties.MoveSets.{HoldAll}
use Rattle.pop_tries.proofs.replies.count_refutations.Goals as goal

pub returns-clause-held : goal.returns-clause-held
returns-clause-held g c few =
    held_in_parts g.R.Rules.rule c.args.contest c.args.desk.now.board c.count_among-some.result.refuting c.count_among-2.result.refuting
    (c.count_among-some.ensures.held c.if-some-most.false) c.count_among-2.ensures.kept
    (subst (λ q. HoldAll g.R.Rules.rule q (refutes_among g.R.Rules.rule c.args.contest Others q) (Some c.count_among-2.result.refuting))
    c.count_among-some.ensures.rest.board
    (c.count_among-2.ensures.held (subst (λ n. c.count_among-2.result.count ≤ n) (sym c.count_among-some.ensures.most) few)))
