use Rattle.pop_text.proofs.Basics.{ArePlain, length, ◌-◌}
use Rattle.pop_text.proofs.front.plain_prefix.Given as goal

-- plain words so far
abbrev pub invariant-loop-plain : goal.invariant-loop-plain
invariant-loop-plain l = ArePlain l.view l.plain.count l.plain.line_ends

-- fewer bytes are left to look at
abbrev pub decreases-loop-plain : goal.decreases-loop-plain
decreases-loop-plain l = length l.view - l.plain.count
