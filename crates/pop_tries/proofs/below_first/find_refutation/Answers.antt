use Rattle.pop_tries.proofs.Words.{ap, arith, below, play_start, refutation, rules, ◌∙◌}
unfoldable use Rattle.pop_tries.specs.ties.Searching.{HoldsAt, rank}
use Rattle.pop_tries.proofs.Goings.{with_event, without_event}
use Rattle.pop_tries.proofs.StepsBelow as steps
use Rattle.pop_tries.proofs.GoesBelow.{still_bare}
use Rattle.pop_events.specs.declared.try_event.TryEvent.TheVariants as event
use Rattle.pop_tries.proofs.below_first.find_refutation.Goals as goal

pub returns-in_default : goal.returns-in_default
unfolding HoldsAt rank
returns-in_default g c =
    let h = c.requires.holds in
    let rule = g.R.Rules.rule in
    let task = c.args.task.now in
    let first = c.args.first in
    let bare = still_bare c.next_refutation-found.ensures.rest h.1 in
    let next = rw (c.contest.ensures, h.1.board_at) at c.in_default.ensures.next in
    let back = c.end_first.ensures.back (play_start task.problem) (rw bare.board_at h.2.came) in
    rw c.end_first.ensures.progress (without_event rule task _ _ _ _ _ (h.0, record { board_at = back; none = bare.none }, h.2.placed)
    (steps.refutations_over rule task h.0 first c.args.place _ _ next) (omega arith))

pub returns : goal.returns
unfolding HoldsAt
returns g c =
    let h = c.requires.holds in
    let bare = still_bare c.next_refutation-found.ensures.rest h.1 in
    let next = rw (c.contest.ensures, h.1.board_at) at c.in-Some.ensures.next in
    let shown = rw (c.stipulation.ensures.stipulation, bare.board_at) at c.shown-shown.ensures.shown in
    with_event g.R.Rules.rule c.args.task.now _ _ _ _ _
    (h.0, record { board_at = c.shown-shown.ensures.unchanged ∙ bare.board_at; none = bare.none }, h.2) _ (below c.args.first.by (refutation c.in-Some.by))
    (search (
      rules,
      steps.refutation_found g.R.Rules.rule c.args.task.now h.0 c.args.first c.args.place _ c.in-Some.by c.args.desk.now.frames.items
          c.next_refutation-found.new.desk.frames.items next.0,
    )) (ap (λ s. event.Refutation s) shown)
