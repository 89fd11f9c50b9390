use Rattle.std.proofs.Common.{length, map, ◌≡◌}
use Rattle.pop_run.proofs.Findings.{IsPrinting}
use Rattle.pop_print.specs.Tries.{try_event_text}
use Rattle.pop_tries.specs.Events.{try_events}
use Rattle.pop_tries.specs.Shown.{try_event_of}
use Rattle.pop_tries_run.proofs.tries_writer.print_tries.Given as goal

-- the events so far are printed, and the search still has the others
abbrev pub invariant-loop-event : goal.invariant-loop-event
invariant-loop-event g l = record {
  problem : l.search.problem ≡ l.problem;
  printing : IsPrinting try_event_text (map (try_event_of g.R.Rules.rule l.problem) (try_events g.R.Rules.rule l.problem l.fn.most))
      (map (try_event_of g.R.Rules.rule l.problem) l.search.left) (g.W.Sink.taken l.fn.sink) (g.W.Sink.taken l.sink);
  counted : g.W.Sink.failures l.sink ≡ g.W.Sink.failures l.fn.sink;
}

-- fewer events are still to come
abbrev pub decreases-loop-event : goal.decreases-loop-event
decreases-loop-event g l = length l.search.left
