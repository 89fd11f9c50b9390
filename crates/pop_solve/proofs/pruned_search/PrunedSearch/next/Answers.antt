use Rattle.pop_walk.proofs.Words.{arith, rules}
use Rattle.pop_walk.proofs.Events as events
use Rattle.pop_walk.proofs.Opened as opened
use Rattle.pop_solve.proofs.pruned_search.PrunedSearch.next.Goals as goal

pub invariant_of-self : goal.invariant_of-self
invariant_of-self g c =
    (c.self.invariant.0, c.self.invariant.1, c.advance.ensures.standing, grind (arith, events.drop-next), search (rules, opened.opened-on))

pub invariant_of-self-else-is_some : goal.invariant_of-self-else-is_some
invariant_of-self-else-is_some g c = (c.self.invariant.0, c.self.invariant.1, c.advance.ensures.standing, search rules, search (rules, opened.opened-on))

pub returns-then-is_some : goal.returns-then-is_some
returns-then-is_some g c = rw (← c.self.view_is) (search rules)

pub returns-else-is_some : goal.returns-else-is_some
returns-else-is_some g c = rw (← c.self.view_is) (search rules)
