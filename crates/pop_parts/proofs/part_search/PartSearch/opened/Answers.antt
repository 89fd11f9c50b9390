use Rattle.pop_parts.proofs.PartBegins as part
use Rattle.pop_parts.proofs.part_search.PartSearch.opened.Goals as goal

pub returns-clause-most : goal.returns-clause-most
returns-clause-most g c = rw (← c.self.view_is) (part.most-opened g.R.Rules.rule _ _ _ _ _ _ c.self.invariant.3)
