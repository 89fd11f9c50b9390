use Rattle.pop_text.proofs.Basics.{take_rest}
use Rattle.pop_text.proofs.Fronts.{first_both}
use Rattle.pop_text.proofs.front.gap_prefix.Goals as goal

pub returns-clause-first : goal.returns-clause-first
returns-clause-first c = rw (c.both.ensures.count, c.both.ensures.line_ends)
    (first_both _ _ _ _ _ (take_rest c.args.view.now c.near_gap-near.result.count) _ _ c.near_gap-near.ensures.first c.gap_blocks-far.ensures)
