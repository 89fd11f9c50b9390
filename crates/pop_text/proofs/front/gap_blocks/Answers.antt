use Rattle.pop_text.proofs.Basics.{sym, ◌∙◌}
use Rattle.pop_text.proofs.Fronts.{first_block}
use Rattle.pop_text.proofs.front.gap_blocks.Goals as goal

pub loop-blocks-preserved : goal.loop-blocks-preserved
loop-blocks-preserved c = first_block c.loop-blocks.invariant c.loop-blocks-test.true
    (sym c.are_in_gap.ensures ∙ c.if-not-are_in_gap.false) c.line_ends_in.ensures.value
    c.line_ends_in.ensures.few
