use Rattle.pop_text.proofs.Basics.{fold, take, with_byte, ◌≡◌}
use Rattle.pop_text.proofs.text.extend_kept.Given as goal

-- the bytes so far are kept
abbrev pub invariant-loop-byte : goal.invariant-loop-byte
invariant-loop-byte l = l.kept.items ≡ fold (with_byte 200) l.fn.kept.items (take l.byte-index l.bytes)
