use Rattle.std.proofs.Common.{ap, arith, inl, refl, true, false, ◌+◌, ◌∙◌, ◌≡◌}
use Rattle.pop_text.proofs.Using.{failures_then}
use Rattle.pop_input.specs.ties.ReaderState.{is_item}
use Rattle.pop_run.proofs.Running.{failed_once}
unfoldable use Rattle.pop_text.specs.Words.{limit}
use Rattle.pop_faults.proofs.Listed.{cut_reads, end_reads, item_there, listed_start, listed_step, none_there, run_cut, run_ends}
use Rattle.pop_faults.proofs.listing.list_faults.Goals as goal

pub loop-reader-init : goal.loop-reader-init
unfolding limit
loop-reader-init g c = rw c.new-reader.ensures (record {
  listed = listed_start _ _;
  seen = tt;
  read_failures = refl;
  write_failures = refl;
  few = omega arith;
})

pub returns-then-is_end : goal.returns-then-is_end
returns-then-is_end g c =
    let i = c.loop-reader.invariant in
    let next = c.next_with_span-item in
    let none : is_item next.result.0 ≡ false = none_there _ _ c.is_end.ensures c.if-is_end.true in
    let fails = failures_then _ _ _ _ _ _ (inl refl) next.ensures.ends i.read_failures next.ensures.counted in
    record {
      headline = run_ends c.loop-reader.reader next.new.self c.loop-reader.number c.loop-reader.status _ (g.S.Source.remaining c.loop-reader.source)
          (g.S.Source.remaining next.new.source) _ (g.W.Sink.taken c.loop-reader.sink) next.result.0 _ _ _ _ i.listed next.ensures.item next.ensures.used
          none (next.ensures.seen i.seen) fails i.write_failures;
      reads = end_reads c.loop-reader.reader next.new.self c.loop-reader.number c.loop-reader.status _ (g.S.Source.remaining c.loop-reader.source)
          (g.S.Source.remaining next.new.source) _ (g.W.Sink.taken c.loop-reader.sink) next.result.0 _ _ i.listed next.ensures.item next.ensures.used
          none (next.ensures.seen i.seen) next.ensures.waits fails;
      once = (failed_once next.new.self.at.end _ _ fails, omega (arith, i.write_failures));
    }

pub returns-in-Err : goal.returns-in-Err
returns-in-Err g c =
    let i = c.loop-reader.invariant in
    let next = c.next_with_span-item in
    let one : is_item next.result.0 ≡ true = item_there _ _ c.is_end.ensures c.if-is_end.false in
    let fails = failures_then _ _ _ _ _ _ (inl refl) next.ensures.ends i.read_failures next.ensures.counted in
    let writes = c.in-Err.ensures.counted ∙ ap (λ n. n + 1) i.write_failures in
    record {
      headline = run_cut c.loop-reader.reader next.new.self c.loop-reader.number c.loop-reader.status _ (g.S.Source.remaining c.loop-reader.source)
          (g.S.Source.remaining next.new.source) _ (g.W.Sink.taken c.loop-reader.sink) (g.W.Sink.taken c.put_item.new.sink) next.result.0 next.result.1
          _ _ _ _ i.listed next.ensures.item next.ensures.span next.ensures.used one (next.ensures.seen i.seen) c.in-Err.ensures.bytes fails writes;
      reads = cut_reads c.loop-reader.reader next.new.self c.loop-reader.number c.loop-reader.status _ (g.S.Source.remaining c.loop-reader.source)
          (g.S.Source.remaining next.new.source) _ (g.W.Sink.taken c.loop-reader.sink) next.result.0 next.result.1
          _ _ i.listed next.ensures.item next.ensures.span next.ensures.used one (next.ensures.seen i.seen) next.ensures.waits fails;
      once = (failed_once next.new.self.at.end _ _ fails, omega (arith, writes));
    }

pub loop-reader-preserved : goal.loop-reader-preserved
loop-reader-preserved g c =
    let i = c.loop-reader.invariant in
    let next = c.next_with_span-item in
    let one : is_item next.result.0 ≡ true = item_there _ _ c.is_end.ensures c.if-is_end.false in
    let less = next.ensures.less one in
    record {
      listed = rw c.status_after-status.ensures (listed_step c.loop-reader.reader next.new.self c.loop-reader.number c.loop-reader.status _
          (g.S.Source.remaining c.loop-reader.source) (g.S.Source.remaining next.new.source) _ (g.W.Sink.taken c.loop-reader.sink) _ next.result.0
          next.result.1 i.listed next.ensures.item next.ensures.span next.ensures.used one c.in-Ok.ensures.bytes);
      seen = next.ensures.seen i.seen;
      read_failures = failures_then _ _ _ _ _ _ (inl refl) next.ensures.ends i.read_failures next.ensures.counted;
      write_failures = c.in-Ok.ensures.counted ∙ i.write_failures;
      few = omega (arith, i.few, less);
    }
