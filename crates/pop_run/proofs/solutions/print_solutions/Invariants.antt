use Rattle.pop_run.proofs.Basics.{event_of, event_text, events_of, length, map, ◌≡◌}
use Rattle.pop_run.proofs.Findings.{IsPrinting}
use Rattle.pop_run.proofs.solutions.print_solutions.Given as goal

-- the events so far are printed, and the search still has the others
abbrev pub invariant-loop-event : goal.invariant-loop-event
invariant-loop-event g l = record {
  problem : l.search.problem ≡ l.problem;
  printing : IsPrinting event_text (events_of l.problem) (map (event_of g.R.Rules.rule l.problem) l.search.left) (g.W.Sink.taken l.fn.sink)
      (g.W.Sink.taken l.sink);
  counted : g.W.Sink.failures l.sink ≡ g.W.Sink.failures l.fn.sink;
}

-- fewer events are still to come
abbrev pub decreases-loop-event : goal.decreases-loop-event
decreases-loop-event g l = length l.search.left
