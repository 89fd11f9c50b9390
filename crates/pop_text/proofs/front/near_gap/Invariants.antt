use Rattle.pop_text.proofs.Basics.{AreFirst, is_gap}
use Rattle.pop_text.proofs.front.near_gap.Given as goal

-- only blanks and line ends so far
abbrev pub invariant-loop-count : goal.invariant-loop-count
invariant-loop-count l = AreFirst is_gap l.view l.count l.line_ends
