use Rattle.pop_text.proofs.Basics.{is_gap, list_all, take, ◌≡◌}
use Rattle.pop_text.proofs.front.are_in_gap.Given as goal

-- whether the bytes so far are blanks or line ends
abbrev pub invariant-loop-byte : goal.invariant-loop-byte
invariant-loop-byte l = l.all ≡ list_all is_gap (take l.byte-index l.block)
