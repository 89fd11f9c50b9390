use Rattle.pop_input.proofs.Words.{map, take, to_ascii_lowercase, ◌≡◌}
use Rattle.pop_input.proofs.values.small_letters.Given as goal

-- the letters so far are small
abbrev pub invariant-loop-byte : goal.invariant-loop-byte
invariant-loop-byte l = l.small.items ≡ map to_ascii_lowercase (take l.byte-index l.word)
