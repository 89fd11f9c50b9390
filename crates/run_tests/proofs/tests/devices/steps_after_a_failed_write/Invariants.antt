use Rattle.std.proofs.Common.{false, ◌≡◌}
use Rattle.pop_text.specs.declared.scanner.End.TheVariants.{Open}
use Rattle.run_tests.proofs.tests.devices.steps_after_a_failed_write.Given as goal

-- neither device has failed as long as it may be called
abbrev pub invariant-loop-step : goal.invariant-loop-step
invariant-loop-step g l = record {
  source : l.session.at.at.end ≡ Open → l.source.device.failures ≡ 0;
  sink : l.session.stopped ≡ false → l.sink.device.failures ≡ 0;
}
