use Rattle.pop_input.proofs.Words.{false, is_digit, list_any, take, ◌≡◌}
use Rattle.pop_input.proofs.draft.men.has_digit.Given as goal

-- no digit so far
abbrev pub invariant-loop-byte : goal.invariant-loop-byte
invariant-loop-byte l = list_any is_digit (take l.byte-index l.text) ≡ false
