use Rattle.pop_parts.proofs.Words.{rules}
use Rattle.pop_parts.proofs.PartBegins as part
use Rattle.pop_parts.proofs.part_search.beginning_of.Goals as goal

pub loop-k-init : goal.loop-k-init
loop-k-init g c = search (rules, part.beginning-none)

pub loop-k-preserved : goal.loop-k-preserved
loop-k-preserved g c = search (rules, part.beginning-more)
