use Rattle.pop_tries.proofs.Words.{play_start, refl, sym, ◌∙◌}
unfoldable use Rattle.pop_tries.specs.ties.Searching.{HoldsAt}
use Rattle.pop_tries.specs.ties.Searching.{IsBare, first_event}
use Rattle.pop_tries.proofs.Goings as goes
use Rattle.pop_tries.proofs.Steps as steps
use Rattle.pop_tries.proofs.group.find_first.Goals as goal

pub returns-then-is_stopped : goal.returns-then-is_stopped
unfolding HoldsAt
returns-then-is_stopped g c =
    let h = c.requires.holds in
    let firsts = c.args.firsts in
    goes.group_ended g.R.Rules.rule c.args.task.now firsts _ _ _ _ _ (c.end_group.ensures.goes _ _ h.1) (c.end_group.ensures.emits _)
    c.end_group.ensures.event
    (steps.stopped_ends g.R.Rules.rule c.args.task.now firsts.group firsts.place firsts.count (sym c.is_stopped.ensures ∙ c.if-is_stopped.true))

pub end_group-requires-in_default-clause-candidates : goal.end_group-requires-in_default-clause-candidates
unfolding HoldsAt
end_group-requires-in_default-clause-candidates g c =
    let h = c.requires.holds in
    rw h.1.board_at at c.in_default.ensures.noted

pub returns-in_default : goal.returns-in_default
unfolding HoldsAt
returns-in_default g c =
    let h = c.requires.holds in
    let firsts = c.args.firsts in
    let next = rw h.1.board_at at c.in_default.ensures.next in
    let bare : IsBare (play_start c.args.task.now.problem) c.play_next-found.new.desk.frames.items c.play_next-found.new.desk.board =
    record { board_at = next.1; none = c.play_next-found.ensures.frames ∙ h.1.none } in
    goes.group_ended g.R.Rules.rule c.args.task.now firsts _ _ _ _ _ (c.end_group-in_default.ensures.goes _ _ bare)
    (c.end_group-in_default.ensures.emits _) c.end_group-in_default.ensures.event
    (steps.emptied_ends g.R.Rules.rule c.args.task.now firsts.group firsts.place firsts.count next.0)

pub returns : goal.returns
unfolding HoldsAt
returns g c =
    let h = c.requires.holds in
    let rule = g.R.Rules.rule in
    let task = c.args.task.now in
    let firsts = c.args.firsts in
    let next = rw h.1.board_at at c.in-Some.ensures.next in
    let noted = rw h.1.board_at at c.in-Some.ensures.noted in
    let open_yet = sym c.is_stopped.ensures ∙ c.if-is_stopped.false in
    rw (c.begin_first.ensures.progress, c.begin_first.ensures.event, c.counted.ensures, c.play_next-found.ensures.group, c.play_next-found.ensures.count)
    (goes.with_event rule task _ _ _ _ _
    (goes.first_holds rule task h.0 c.requires.is_task firsts h.2 _ _ _ _ _ next.0 open_yet noted next.3 next.2 next.4 _ _ (c.play_next-found.ensures.frames ∙ h.1.none)
    (c.begin_first.ensures.unchanged ∙ next.1))
    _ (first_event firsts.group _) (goes.first_comes rule task h.0 c.requires.is_task firsts h.2 _ _ _ _ _ next.0 open_yet _ _) refl)
