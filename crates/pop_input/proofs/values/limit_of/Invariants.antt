use Rattle.pop_input.proofs.Words.{take}
use Rattle.pop_input.proofs.Parsing.{DigitsSoFar}
use Rattle.pop_input.proofs.values.limit_of.Given as goal

-- the digits so far are read
abbrev pub invariant-loop-byte : goal.invariant-loop-byte
invariant-loop-byte l = record { read : DigitsSoFar (take l.byte-index l.word) l.value }
