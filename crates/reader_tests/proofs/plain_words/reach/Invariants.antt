use Rattle.std.proofs.Common.{◌≡◌}
use Rattle.reader_tests.proofs.plain_words.reach.Given as goal

-- the bytes so far are counted
abbrev pub invariant-loop-byte : goal.invariant-loop-byte
invariant-loop-byte l = l.count ≡ l.byte-index
