use Rattle.pop_parts.proofs.Words.{IsEndSeen, Open, failures_after, work_left, ◌+◌, ◌^◌, ◌≡◌, ◌≤◌}
use Rattle.pop_parts.proofs.Showing.{Skipped}
use Rattle.pop_parts.proofs.show.show_parts.Given as goal

-- the items so far are read, and none is the requested one
abbrev pub invariant-loop-reader : goal.invariant-loop-reader
invariant-loop-reader g l = record {
  skipped : Skipped l.request.item l.reader l.number l.failed (g.S.Source.remaining l.fn.source) (g.S.Source.remaining l.source);
  seen : IsEndSeen l.reader.at.end (g.S.Source.remaining l.source);
  read_failures : g.S.Source.failures l.source ≡ failures_after Open l.reader.at.end (g.S.Source.failures l.fn.source);
  untouched : l.sink ≡ l.fn.sink;
  few : l.number + work_left l.reader ≤ 2 ^ 31;
}

abbrev pub decreases-loop-reader : goal.decreases-loop-reader
decreases-loop-reader g l = work_left l.reader
