use Rattle.std.proofs.Common.{take}
use Rattle.pop_settings.proofs.Numbers.{DigitsSoFar}
use Rattle.pop_settings.proofs.pops_part.values.number_of.Given as goal

-- the digits so far are read
abbrev pub invariant-loop-byte : goal.invariant-loop-byte
invariant-loop-byte l = record { read : DigitsSoFar (take l.byte-index l.text) l.value }
