use Rattle.pop_text.proofs.Basics.{rules}
use Rattle.pop_text.proofs.Fronts.{all_block}
use Rattle.pop_text.proofs.front.run_blocks.Goals as goal

pub loop-count-preserved : goal.loop-count-preserved
loop-count-preserved c = search (rules, all_block)
