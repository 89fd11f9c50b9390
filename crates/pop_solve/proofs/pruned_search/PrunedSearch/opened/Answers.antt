use Rattle.pop_walk.proofs.Words.{rules, true}
use Rattle.pop_walk.proofs.Opened as opened
use Rattle.pop_solve.proofs.pruned_search.PrunedSearch.opened.Goals as goal

pub returns-clause-most : goal.returns-clause-most
returns-clause-most g c = rw (← c.self.view_is) (opened.most-opened g.R.Rules.rule _ true _ _ _ c.self.invariant.4)

pub returns-clause-fewest : goal.returns-clause-fewest
returns-clause-fewest g c = rw (← c.self.view_is) (λ battle never none.
    opened.fewest-opened g.R.Rules.rule _ true _ _ _ c.self.invariant.4 (search rules) never none battle)
