use Rattle.pop_text.proofs.Basics.{take_rest}
use Rattle.pop_text.proofs.Fronts.{leads_both}
use Rattle.pop_text.proofs.front.far_run.Goals as goal

pub returns : goal.returns
returns c = leads_both _ _ _ _ _ (take_rest c.args.view.now c.run_blocks-whole.result) c.run_blocks-whole.ensures.within c.run_blocks-whole.ensures.all
    c.run_front.ensures.front
