use Rattle.pop_parts.proofs.PartEvents as events
use Rattle.pop_parts.proofs.part_search.PartSearch.next.Goals as goal

pub invariant_of-self : goal.invariant_of-self
invariant_of-self g c = (
  c.self.invariant.0,
  c.self.invariant.1,
  c.advance.ensures.standing,
  events.opened-on g.R.Rules.rule _ _ _ _ _ _ _ _ _ c.advance.ensures.counts c.self.invariant.3,
)

pub returns-clause-event : goal.returns-clause-event
returns-clause-event g c = rw (← c.self.view_is) (events.event-is g.R.Rules.rule _ _ _ _ _ _ c.advance.ensures.gives)

pub returns-clause-left : goal.returns-clause-left
returns-clause-left g c = rw (← c.self.view_is) (events.left-is g.R.Rules.rule _ _ _ _ _ _ c.advance.ensures.gives)

pub returns-clause-board : goal.returns-clause-board
returns-clause-board g c = rw (← c.self.view_is) (events.board-is g.R.Rules.rule _ _ _ _ _ _ c.advance.ensures.gives)
