use Rattle.pop_tries.proofs.Words.{play_start, refl, set_event}
unfoldable use Rattle.pop_tries.specs.ties.Searching.{HoldsAt, left_of}
use Rattle.pop_tries.specs.ties.Searching.{contest_of}
use Rattle.pop_tries.proofs.Candidates.{unknown_keys}
use Rattle.pop_walk.specs.Events.{impossible}
use Rattle.pop_tries.proofs.Goings.{with_event}
use Rattle.pop_tries.proofs.search.next_step.Goals as goal

pub returns-in-NotPossible : goal.returns-in-NotPossible
unfolding HoldsAt left_of
returns-in-NotPossible g c =
    let h = rw c.in-NotPossible.is at c.requires.may_step.holds in
    rw (c.in-NotPossible.is, c.beginning_of_keys.ensures)
    (with_event g.R.Rules.rule c.args.task.now _ _ _ _ _ (h.0, h.1, tt, unknown_keys g.R.Rules.rule (contest_of c.args.task.now) c.args.task.now.most (play_start c.args.task.now.problem) _ refl) _ (set_event impossible) refl refl)
