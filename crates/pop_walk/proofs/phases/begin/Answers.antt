unfoldable use Rattle.pop_walk.specs.ties.Walk.{AreEnds}
use Rattle.pop_walk.proofs.Words.{ap, Walk, HoldsAtProgress, rules, left_of, phase_events, IsLinked, IsRoomy, AreCursors, position}
use Rattle.pop_walk.proofs.Walking as walking
use Rattle.pop_walk.proofs.Events as events
use Rattle.pop_walk.proofs.Opened as opened
use Rattle.pop_walk.proofs.Solved as solved
use Rattle.pop_battle.proofs.Boards.{after_start}
use Rattle.pop_walk.proofs.Sound.{start_sound}
use Rattle.pop_walk.specs.ties.Counts.{least_if, untried_at}
use Rattle.pop_walk.proofs.phases.begin.Goals as goal

pub returns-then-not-set_up-clause-left : goal.returns-then-not-set_up-clause-left
unfolding left_of phase_events
returns-then-not-set_up-clause-left g c = search rules

pub returns-clause-standing : goal.returns-clause-standing
unfolding HoldsAtProgress IsLinked IsRoomy AreCursors AreEnds position
returns-clause-standing g c = search (rules, walking.reverse-push, start_sound)

pub returns-clause-left : goal.returns-clause-left
unfolding HoldsAtProgress
returns-clause-left g c = search (rules, solved.root-solutions, after_start, walking.reverse-push, events.left-begun)

pub returns-then-not-set_up-clause-counts : goal.returns-then-not-set_up-clause-counts
unfolding least_if untried_at
returns-then-not-set_up-clause-counts g c = search rules

pub returns-clause-counts : goal.returns-clause-counts
unfolding HoldsAtProgress
returns-clause-counts g c = rw (c.of-walk.ensures, c.push-2.ensures.items, walking.reverse-push, c.requires.standing.0)
    (opened.counts-begun g.R.Rules.rule c.args.problem.now c.requires.sound c.args.phase _ (ap (λ (w : Walk). w.half_moves) c.of-walk.ensures) (search rules)
    (search rules) _ _ _ _ c.opened_with-search_state.ensures)
