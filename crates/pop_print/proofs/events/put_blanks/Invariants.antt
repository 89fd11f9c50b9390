use Rattle.std.proofs.Common.{◌≡◌, replicate}
use Rattle.pop_text.specs.Bytes.{Appends}
use Rattle.pop_print.proofs.events.put_blanks.Given as goal

-- the blanks so far are written
abbrev pub invariant-loop-blank : goal.invariant-loop-blank
invariant-loop-blank g l = record {
  bytes : Appends (g.W.Sink.taken l.fn.sink) (g.W.Sink.taken l.sink) (replicate l._blank 32);
  counted : g.W.Sink.failures l.sink ≡ g.W.Sink.failures l.fn.sink;
}
