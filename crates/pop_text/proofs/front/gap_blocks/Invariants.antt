use Rattle.pop_text.proofs.Basics.{AreFirst, is_gap, length, ◌-◌}
use Rattle.pop_text.proofs.front.gap_blocks.Given as goal

-- only blanks and line ends so far
abbrev pub invariant-loop-blocks : goal.invariant-loop-blocks
invariant-loop-blocks l = AreFirst is_gap l.view l.blocks.count l.blocks.line_ends

-- fewer bytes are left to look at
abbrev pub decreases-loop-blocks : goal.decreases-loop-blocks
decreases-loop-blocks l = length l.view - l.blocks.count
