use Rattle.std.proofs.Common.{◌≡◌}
use Rattle.pop_text.specs.declared.scanner.End.TheVariants.{Open}
use Rattle.reader_tests.proofs.tests.spans.spans_in.Given as goal

-- no call has failed as long as the end isn't known
abbrev pub invariant-loop-round : goal.invariant-loop-round
invariant-loop-round l = record {
  sound : l.reader.at.end ≡ Open → l.source.failures ≡ 0;
}
