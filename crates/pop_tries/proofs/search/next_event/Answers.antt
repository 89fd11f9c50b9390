use Rattle.pop_tries.proofs.Words.{sym, ◌∙◌}
use Rattle.pop_tries.proofs.Searches.{emitted, over_empty}
use Rattle.pop_tries.proofs.search.next_event.Goals as goal

pub returns-then-is_some-clause-next : goal.returns-then-is_some-clause-next
returns-then-is_some-clause-next g c =
    let some = sym c.is_some.ensures ∙ c.if-is_some.true in
    search (emitted g.R.Rules.rule c.args.task.now _ _ _ c.next_step-step.result.event c.loop-desk.invariant.1 c.next_step-step.ensures.emits some)

pub returns-clause-next : goal.returns-clause-next
returns-clause-next g c =
    let none = over_empty g.R.Rules.rule c.args.task.now c.loop-desk.progress c.loop-desk.desk.frames.items (sym c.is_over.ensures ∙ c.loop-desk-test.false) in
    (c.loop-desk.invariant.1 ∙ none, none)
