use Rattle.pop_parts.proofs.Words.{IsPrinting, event_of, length, map, ◌≡◌}
use Rattle.pop_print.specs.Events.{event_text}
use Rattle.pop_parts.proofs.show.print_events.Given as goal

-- the events so far are printed, and the search still has the others
abbrev pub invariant-loop-event : goal.invariant-loop-event
invariant-loop-event g l = record {
  problem : l.search.problem ≡ l.fn.search.problem;
  printing : IsPrinting event_text (map (event_of g.R.Rules.rule l.fn.search.problem) l.fn.search.left)
      (map (event_of g.R.Rules.rule l.fn.search.problem) l.search.left) (g.W.Sink.taken l.fn.sink) (g.W.Sink.taken l.sink);
  counted : g.W.Sink.failures l.sink ≡ g.W.Sink.failures l.fn.sink;
}

abbrev pub decreases-loop-event : goal.decreases-loop-event
decreases-loop-event g l = length l.search.left
