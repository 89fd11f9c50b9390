use Rattle.pop_parts.proofs.Words.{None, ap, arith, entry_in, inl, is_some, limit, refl, rules, sym, true, ◌+◌, ◌∙◌, ◌≡◌, ◌≢◌}
use Rattle.pop_text.proofs.Using.{failures_then}
use Rattle.pop_parts.proofs.Reading.{entry_there, item_there, none_there}
use Rattle.pop_parts.proofs.Showing.{found_reads, item_cut, item_missing, item_shown, missing_reads, skipped_start, skipped_step}
use Rattle.pop_parts.proofs.show.show_parts.Goals as goal

pub loop-reader-init : goal.loop-reader-init
unfolding limit
loop-reader-init g c = rw c.new-reader.ensures (record {
  skipped = skipped_start _ _;
  seen = tt;
  read_failures = refl;
  untouched = refl;
  few = omega arith;
})

pub returns-then-is_end : goal.returns-then-is_end
returns-then-is_end g c =
    let i = c.loop-reader.invariant in
    let next = c.next_problem-item in
    let none : entry_in next.result ≡ None = none_there _ (sym c.is_end.ensures ∙ c.if-is_end.true) in
    let fails = failures_then _ _ _ _ _ _ (inl refl) next.ensures.ends i.read_failures next.ensures.counted in
    record {
      headline = rw i.untouched (item_missing c.args.request.now c.loop-reader.reader next.new.self c.loop-reader.number c.loop-reader.failed _
          (g.S.Source.remaining c.loop-reader.source) (g.S.Source.remaining next.new.source) _ next.result _ _ _ _ _ i.skipped next.ensures.item none
          (next.ensures.seen i.seen) c.outcome_without_item.ensures fails refl);
      reads = missing_reads _ c.loop-reader.reader next.new.self c.loop-reader.number c.loop-reader.failed _ (g.S.Source.remaining c.loop-reader.source)
          (g.S.Source.remaining next.new.source) next.result _ _ i.skipped next.ensures.item next.ensures.used none (next.ensures.seen i.seen)
          next.ensures.waits fails;
      once = search rules;
    }

pub returns-in-Ok : goal.returns-in-Ok
returns-in-Ok g c =
    let i = c.loop-reader.invariant in
    let next = c.next_problem-item in
    let there = entry_there _ (sym c.is_end.ensures ∙ c.if-is_end.false) in
    let one : c.loop-reader.number ≡ c.args.request.now.item = grind (arith, c.if-number-request.true) in
    let some : is_some (entry_in next.result) ≡ true = rw there.1 refl in
    let fails = failures_then _ _ _ _ _ _ (inl refl) next.ensures.ends i.read_failures next.ensures.counted in
    record {
      headline = item_shown c.args.request.now c.loop-reader.reader next.new.self c.loop-reader.number c.loop-reader.failed _
          (g.S.Source.remaining c.loop-reader.source) (g.S.Source.remaining next.new.source) _ _ next.result there.0 _ _ _ _ _ i.skipped next.ensures.item
          there.1 (next.ensures.seen i.seen) one (rw i.untouched at c.in-Ok.ensures.bytes) (c.in-Ok.ensures.outcome some) fails
          (c.in-Ok.ensures.counted ∙ ap g.W.Sink.failures i.untouched);
      reads = found_reads _ c.loop-reader.reader next.new.self c.loop-reader.number c.loop-reader.failed _ (g.S.Source.remaining c.loop-reader.source)
          (g.S.Source.remaining next.new.source) next.result there.0 _ _ i.skipped next.ensures.item next.ensures.used there.1 one (next.ensures.seen i.seen)
          next.ensures.waits fails;
      once = search rules;
    }

pub returns-in-Err : goal.returns-in-Err
returns-in-Err g c =
    let i = c.loop-reader.invariant in
    let next = c.next_problem-item in
    let there = entry_there _ (sym c.is_end.ensures ∙ c.if-is_end.false) in
    let one : c.loop-reader.number ≡ c.args.request.now.item = grind (arith, c.if-number-request.true) in
    let fails = failures_then _ _ _ _ _ _ (inl refl) next.ensures.ends i.read_failures next.ensures.counted in
    record {
      headline = item_cut c.args.request.now c.loop-reader.reader next.new.self c.loop-reader.number c.loop-reader.failed _
          (g.S.Source.remaining c.loop-reader.source) (g.S.Source.remaining next.new.source) _ _ next.result there.0 _ _ _ _ i.skipped next.ensures.item
          there.1 (next.ensures.seen i.seen) one (rw i.untouched at c.in-Err.ensures.bytes) fails
          (c.in-Err.ensures.counted ∙ ap (λ s. g.W.Sink.failures s + 1) i.untouched);
      reads = found_reads _ c.loop-reader.reader next.new.self c.loop-reader.number c.loop-reader.failed _ (g.S.Source.remaining c.loop-reader.source)
          (g.S.Source.remaining next.new.source) next.result there.0 _ _ i.skipped next.ensures.item next.ensures.used there.1 one (next.ensures.seen i.seen)
          next.ensures.waits fails;
      once = search rules;
    }

pub loop-reader-preserved : goal.loop-reader-preserved
loop-reader-preserved g c =
    let i = c.loop-reader.invariant in
    let next = c.next_problem-item in
    let there = entry_there _ (sym c.is_end.ensures ∙ c.if-is_end.false) in
    let less = next.ensures.less (item_there next.result there.0 there.1) in
    let another : c.loop-reader.number ≢ c.args.request.now.item = grind (arith, c.if-number-request.false) in
    record {
      skipped = rw c.reports_device_failure-failed.ensures (skipped_step _ c.loop-reader.reader next.new.self c.loop-reader.number c.loop-reader.failed _
          (g.S.Source.remaining c.loop-reader.source)
          (g.S.Source.remaining next.new.source) next.result there.0 i.skipped next.ensures.item next.ensures.used there.1 another);
      seen = next.ensures.seen i.seen;
      read_failures = failures_then _ _ _ _ _ _ (inl refl) next.ensures.ends i.read_failures next.ensures.counted;
      untouched = i.untouched;
      few = omega (arith, i.few, less);
    }
