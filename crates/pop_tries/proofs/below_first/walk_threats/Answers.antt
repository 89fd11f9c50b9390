use Rattle.pop_tries.proofs.Words.{arith, rules}
unfoldable use Rattle.pop_tries.specs.ties.Searching.{HoldsAt, rank}
use Rattle.pop_tries.specs.ties.Searching.{after_first}
use Rattle.pop_tries.proofs.Goings.{with_event, without_event}
use Rattle.pop_tries.proofs.StepsBelow as steps
use Rattle.pop_tries.proofs.GoesBelow.{replies_follow, walked_on}
use Rattle.pop_tries.specs.ties.Starts.{by_passing}
use Rattle.pop_tries.proofs.below_first.walk_threats.Goals as goal

pub returns-in-Some : goal.returns-in-Some
unfolding HoldsAt
returns-in-Some g c =
    let h = c.requires.holds in
    let next = c.next_node-next.ensures.next c.args.first.by by_passing h.1.walking in
    let shown = rw c.in-Some.is at next.1 in
    with_event g.R.Rules.rule c.args.task.now _ _ _ _ _ (h.0, walked_on g.R.Rules.rule c.args.task.now c.args.first _ _ _ _ _ h.1 next.0, h.2) _ _
    (steps.threats_go_on g.R.Rules.rule c.args.task.now h.0 c.args.first c.args.crossed _ _ shown.0 shown.1) shown.2

pub returns : goal.returns
unfolding HoldsAt rank
returns g c =
    let h = c.requires.holds in
    let rule = g.R.Rules.rule in
    let task = c.args.task.now in
    let none = rw c.in_default.is at (c.next_node-next.ensures.next c.args.first.by by_passing h.1.walking).1 in
    let back = c.unpass.ensures.before (after_first rule task c.args.first.by) none.1 (search (rules, h.2)) in
    without_event rule task _ _ _ _ _ (h.0, replies_follow rule task c.args.first _ _ _ _ _ h.1 back none.2)
    (steps.threats_over rule task h.0 c.args.first c.start.result c.args.crossed _ _ c.start.ensures none.0) (omega arith)
