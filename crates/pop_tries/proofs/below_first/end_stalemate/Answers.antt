use Rattle.pop_tries.proofs.Words.{below, play_start, refl, stalemate}
unfoldable use Rattle.pop_tries.specs.ties.Searching.{HoldsAt}
use Rattle.pop_tries.proofs.Goings.{with_event}
use Rattle.pop_tries.proofs.StepsBelow as steps
use Rattle.pop_tries.proofs.below_first.end_stalemate.Goals as goal

pub returns : goal.returns
unfolding HoldsAt
returns g c =
    let h = c.requires.holds in
    let rule = g.R.Rules.rule in
    let task = c.args.task.now in
    let first = c.args.first in
    let back = c.end_first.ensures.back (play_start task.problem) (rw h.1.board_at h.2.came) in
    rw c.end_first.ensures.progress (with_event rule task _ _ _ _ _ (h.0, record { board_at = back; none = h.1.none }, h.2.placed) _
    (below first.by stalemate) (steps.stalemate_over rule task h.0 first _ _) refl)
