use Rattle.std.proofs.Common.{◌+◌, ◌^◌, ◌≡◌, ◌≤◌}
use Rattle.pop_text.specs.declared.scanner.End.TheVariants.{Open}
use Rattle.pop_text.specs.ties.Reading.{IsEndSeen, failures_after}
use Rattle.pop_input.specs.ties.ReaderState.{work_left}
use Rattle.pop_faults.proofs.Listed.{Listed}
use Rattle.pop_faults.proofs.listing.list_faults.Given as goal

-- the items so far are read and listed
abbrev pub invariant-loop-reader : goal.invariant-loop-reader
invariant-loop-reader g l = record {
  listed : Listed l.reader l.number l.status (g.S.Source.remaining l.fn.source) (g.S.Source.remaining l.source) (g.W.Sink.taken l.fn.sink)
      (g.W.Sink.taken l.sink);
  seen : IsEndSeen l.reader.at.end (g.S.Source.remaining l.source);
  read_failures : g.S.Source.failures l.source ≡ failures_after Open l.reader.at.end (g.S.Source.failures l.fn.source);
  write_failures : g.W.Sink.failures l.sink ≡ g.W.Sink.failures l.fn.sink;
  few : l.number + work_left l.reader ≤ 2 ^ 31;
}

-- less of the input is left to read
abbrev pub decreases-loop-reader : goal.decreases-loop-reader
decreases-loop-reader g l = work_left l.reader
