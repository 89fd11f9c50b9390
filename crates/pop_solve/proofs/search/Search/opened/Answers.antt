use Rattle.pop_walk.proofs.Words.{false, refl, rules}
use Rattle.pop_walk.proofs.Opened as opened
use Rattle.pop_solve.proofs.search.Search.opened.Goals as goal

pub returns-clause-most : goal.returns-clause-most
returns-clause-most g c = rw (← c.self.view_is) (opened.most-opened g.R.Rules.rule _ false _ _ _ c.self.invariant.4)

pub returns-clause-all : goal.returns-clause-all
returns-clause-all g c = rw (← c.self.view_is) (λ help never none. opened.all-opened g.R.Rules.rule _ false _ _ _ c.self.invariant.4 refl never none (search rules) help)

pub returns-clause-fewest : goal.returns-clause-fewest
returns-clause-fewest g c = rw (← c.self.view_is) (λ battle never none. opened.fewest-opened g.R.Rules.rule _ false _ _ _ c.self.invariant.4 refl never none battle)
