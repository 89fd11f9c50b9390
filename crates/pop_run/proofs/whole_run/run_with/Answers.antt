use Rattle.pop_run.proofs.Basics.{ap, arith, failures_then, inl, refl, ◌+◌, ◌∙◌}
use Rattle.pop_run.proofs.Running.{progress_start, progress_step, run_ends, run_cut, ended_most, cut_most, ended_reads, cut_reads, failed_once}
use Rattle.pop_run.proofs.whole_run.run_with.Goals as goal

pub loop-sound-init : goal.loop-sound-init
loop-sound-init g c = rw c.with-session.ensures (record { progress = progress_start _ _ _ _; seen = tt; read_failures = refl; write_failures = refl })

pub loop-sound-preserved : goal.loop-sound-preserved
loop-sound-preserved g c =
    let i = c.loop-sound.invariant in
    record {
      progress = progress_step _ _ c.loop-sound.session c.step.new.self _ (g.S.Source.remaining c.loop-sound.source) (g.S.Source.remaining c.step.new.source) _
          (g.W.Sink.taken c.loop-sound.sink) (g.W.Sink.taken c.step.new.sink)
          c.in-Ok-Problem._sound i.progress (rw c.in-Ok-Problem.field-0-is at (c.in-Ok-Problem.ensures.does i.progress.running));
      seen = c.step.ensures.seen i.seen;
      read_failures = failures_then _ _ _ _ _ _ (inl refl) c.step.ensures.ends i.read_failures c.step.ensures.read_failures;
      write_failures = c.in-Ok-Problem.ensures.write_failures i.progress.running ∙ i.write_failures;
    }

pub returns-in-Ok-Finished : goal.returns-in-Ok-Finished
returns-in-Ok-Finished g c =
    let i = c.loop-sound.invariant in
    record {
      headline = run_ends _ _ c.loop-sound.session c.step.new.self _ (g.S.Source.remaining c.loop-sound.source) (g.S.Source.remaining c.step.new.source) _
          (g.W.Sink.taken c.loop-sound.sink) (g.W.Sink.taken c.step.new.sink)
          c.in-Ok-Finished.status _ _ _ _ i.progress (rw c.in-Ok-Finished.field-0-is at (c.in-Ok-Finished.ensures.does i.progress.running))
          (c.step.ensures.seen i.seen) (failures_then _ _ _ _ _ _ (inl refl) c.step.ensures.ends i.read_failures c.step.ensures.read_failures)
          (c.in-Ok-Finished.ensures.write_failures i.progress.running ∙ i.write_failures);
      reads = ended_reads _ _ c.loop-sound.session c.step.new.self _ (g.S.Source.remaining c.loop-sound.source) (g.S.Source.remaining c.step.new.source) _
          (g.W.Sink.taken c.loop-sound.sink) (g.W.Sink.taken c.step.new.sink)
          c.in-Ok-Finished.status _ _ i.progress (rw c.in-Ok-Finished.field-0-is at (c.in-Ok-Finished.ensures.does i.progress.running))
          (c.step.ensures.seen i.seen) c.step.ensures.waits
          (failures_then _ _ _ _ _ _ (inl refl) c.step.ensures.ends i.read_failures c.step.ensures.read_failures);
      once = (
        failed_once c.step.new.self.at.at.end _ _ (failures_then _ _ _ _ _ _ (inl refl) c.step.ensures.ends i.read_failures c.step.ensures.read_failures),
        omega (arith, c.in-Ok-Finished.ensures.write_failures i.progress.running, i.write_failures),
      );
      taken = ended_most _ _ c.loop-sound.session c.step.new.self _ (g.S.Source.remaining c.loop-sound.source) (g.S.Source.remaining c.step.new.source) _
          (g.W.Sink.taken c.loop-sound.sink) (g.W.Sink.taken c.step.new.sink)
          c.in-Ok-Finished.status i.progress (rw c.in-Ok-Finished.field-0-is at (c.in-Ok-Finished.ensures.does i.progress.running))
          c.step.ensures.within c.step.ensures.waits;
    }

pub returns-in-Err : goal.returns-in-Err
returns-in-Err g c =
    let i = c.loop-sound.invariant in
    record {
      headline = run_cut _ _ c.loop-sound.session c.step.new.self _ (g.S.Source.remaining c.loop-sound.source) (g.S.Source.remaining c.step.new.source) _
          (g.W.Sink.taken c.loop-sound.sink) (g.W.Sink.taken c.step.new.sink)
          c.in-Err.field-0 _ _ _ _ i.progress (c.in-Err.ensures.does i.progress.running) (c.step.ensures.seen i.seen)
          (failures_then _ _ _ _ _ _ (inl refl) c.step.ensures.ends i.read_failures c.step.ensures.read_failures)
          (c.in-Err.ensures.write_failures i.progress.running ∙ ap (λ n. n + 1) i.write_failures);
      reads = cut_reads _ _ c.loop-sound.session c.step.new.self _ (g.S.Source.remaining c.loop-sound.source) (g.S.Source.remaining c.step.new.source) _
          (g.W.Sink.taken c.loop-sound.sink) (g.W.Sink.taken c.step.new.sink)
          c.in-Err.field-0 _ _ i.progress (c.in-Err.ensures.does i.progress.running) (c.step.ensures.seen i.seen) c.step.ensures.waits
          (failures_then _ _ _ _ _ _ (inl refl) c.step.ensures.ends i.read_failures c.step.ensures.read_failures);
      once = (
        failed_once c.step.new.self.at.at.end _ _ (failures_then _ _ _ _ _ _ (inl refl) c.step.ensures.ends i.read_failures c.step.ensures.read_failures),
        omega (arith, c.in-Err.ensures.write_failures i.progress.running, i.write_failures),
      );
      taken = cut_most _ _ c.loop-sound.session c.step.new.self _ (g.S.Source.remaining c.loop-sound.source) (g.S.Source.remaining c.step.new.source) _
          (g.W.Sink.taken c.loop-sound.sink) (g.W.Sink.taken c.step.new.sink)
          c.in-Err.field-0 i.progress (c.in-Err.ensures.does i.progress.running) c.step.ensures.within c.step.ensures.waits;
    }
