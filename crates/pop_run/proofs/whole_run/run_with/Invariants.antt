use Rattle.pop_run.proofs.Basics.{IsEndSeen, Open, failures_after, work_left, ◌≡◌}
use Rattle.pop_run.proofs.Running.{Progress}
use Rattle.pop_run.proofs.whole_run.run_with.Given as goal

-- the items so far are read and reported
abbrev pub invariant-loop-sound : goal.invariant-loop-sound
invariant-loop-sound g l = record {
  progress : Progress g.I.ItemWriter.text l.fn.writer l.session (g.S.Source.remaining l.fn.source) (g.S.Source.remaining l.source) (g.W.Sink.taken l.fn.sink)
      (g.W.Sink.taken l.sink);
  seen : IsEndSeen l.session.at.at.end (g.S.Source.remaining l.source);
  read_failures : g.S.Source.failures l.source ≡ failures_after Open l.session.at.at.end (g.S.Source.failures l.fn.source);
  write_failures : g.W.Sink.failures l.sink ≡ g.W.Sink.failures l.fn.sink;
}

-- less of the input is left to read
abbrev pub decreases-loop-sound : goal.decreases-loop-sound
decreases-loop-sound g l = work_left l.session.at
