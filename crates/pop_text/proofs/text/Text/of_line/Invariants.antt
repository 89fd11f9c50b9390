use Rattle.pop_text.proofs.Basics.{length, without_trailing, ◌≡◌}
use Rattle.pop_text.proofs.text.Text.of_line.Given as goal

-- only trailing blanks are gone
abbrev pub invariant-loop-byte : goal.invariant-loop-byte
invariant-loop-byte l = without_trailing l.kept.items ≡ without_trailing l.fn.kept.items

-- the text gets shorter
abbrev pub decreases-loop-byte : goal.decreases-loop-byte
decreases-loop-byte l = length l.kept.items
