use Rattle.pop_tries.proofs.Words.{ap, arith, play_start, refl, rules, set_event}
use Rattle.pop_events.specs.declared.try_event.TryEvent.TheVariants.{Set}
unfoldable use Rattle.pop_tries.specs.ties.Searching.{HoldsAt, rank}
use Rattle.pop_tries.specs.ties.Searching.{contest_of}
use Rattle.pop_tries.proofs.Candidates.{unknown_keys}
use Rattle.pop_tries.proofs.Goings.{with_event, without_event}
use Rattle.pop_tries.proofs.SetPlay.{left_ends, left_goes_on, none_after, none_reversed}
use Rattle.pop_tries.proofs.set_play.walk_set_play.Goals as goal

pub returns-in-Some : goal.returns-in-Some
unfolding HoldsAt
returns-in-Some g c =
    let gives = rw c.in-Some.is at c.advance.ensures.gives in
    with_event g.R.Rules.rule c.args.task.now _ _ _ _ _ (c.requires.holds.0, c.advance.ensures.standing) _ (set_event gives.bare)
    (left_goes_on g.R.Rules.rule c.args.task.now _ _ _ _ gives.bare gives.left) (ap Set gives.event_is)

pub returns-in-None : goal.returns-in-None
unfolding HoldsAt rank
returns-in-None g c =
    let gives = rw c.in-None.is at c.advance.ensures.gives in
    let none = none_after g.R.Rules.rule c.args.task.now.problem _ _ _ c.advance.ensures.standing gives.2 in
    rw c.beginning_of_keys.ensures (without_event g.R.Rules.rule c.args.task.now _ _ _ _ _
    (c.requires.holds.0, record { board_at = gives.1; none = none_reversed _ none }, tt, unknown_keys g.R.Rules.rule (contest_of c.args.task.now) c.args.task.now.most (play_start c.args.task.now.problem) _ refl)
    (search (rules, left_ends g.R.Rules.rule c.args.task.now c.args.progress c.args.desk.now.frames.items c.advance.new.frames.items gives.0))
    (omega arith))
