use Rattle.pop_input.proofs.Words.{None, Nothing, ReaderState, ap, calls_none, calls_then, command_of, false, inl, inr, last_of, next_after, refl, rules, sym, true, ◌∙◌, ◌≡◌}
use Rattle.pop_input.proofs.Items.{block_starts, line_read, long_read, open_read, not_closing}
use Rattle.pop_input.proofs.Skipping.{skip_read}
use Rattle.pop_input.proofs.Ends.{word_closes, input_ends, cut_read}
use Rattle.pop_input.proofs.Used.{closed_item, cut_takes, end_used, some_none, some_run, some_skipped, some_then, word_used}
use Rattle.pop_input.proofs.Spans.{close_spanned, closing_command, closing_word, cut_spanned, end_spanned, fresh_span, long_part, long_spanned, word_spanned}
use Rattle.pop_input.proofs.DeviceFaults.{block_fault_textual, cut_failed, ended_textual, word_closes_textual}
use Rattle.pop_input.proofs.reader.Reader.next_with_span.Goals as goal
use Rattle.pop_input.proofs.reader.Reader.next_with_span.Goals.{in-First, in-Later}

pub loop-keyword-init : goal.loop-keyword-init
loop-keyword-init g c = rw (← c.self.view_is) (record {
  block = elim c.match-self.branch [
    | in-First w ↦ rw (w.block-is, w.in-First.is)
        (block_starts true c.self.inside.scanner (g.S.Source.remaining c.args.source.now) w.first-block.result w.first-block.ensures)
    | in-Later w ↦ rw (w.block-is, w.in-Later.is)
        (block_starts false c.self.inside.scanner (g.S.Source.remaining c.args.source.now) w.later-block.result w.later-block.ensures)
  ];
  used = some_none c.self.inside.scanner (g.S.Source.remaining c.args.source.now);
  starts = elim c.match-self.branch [ in-First w ↦ rw w.in-First.is refl | in-Later w ↦ rw w.in-Later.is refl ];
  calls_source = calls_none c.self.inside.scanner.end (g.S.Source.remaining c.args.source.now) (g.S.Source.failures c.args.source.now);
  spanned = elim c.match-self.branch [
    | in-First w ↦ rw w.block-is (fresh_span _ _ _ _ _ _ w.first-block.ensures)
    | in-Later w ↦ rw w.block-is (fresh_span _ _ _ _ _ _ w.later-block.ensures)
  ];
})

pub loop-keyword-preserved-in-Line : goal.loop-keyword-preserved-in-Line
loop-keyword-preserved-in-Line g c =
    let i = c.loop-keyword.invariant in
    let t = c.in-Line.ensures.token in
    record {
      block = line_read _ _ _ _ _ _ _ _ _ i.block t.0 t.1 t.2 c.in-Line.keyword c.next_token.new.text t.3 t.4 t.5 c.note.ensures;
      used = some_then i.used c.in-Line.ensures.used;
      starts = i.starts;
      calls_source = calls_then i.calls_source c.next_token.ensures.calls_source;
      spanned = λ fault now. i.spanned fault (sym c.note.ensures.fault ∙ now);
    }

pub loop-keyword-preserved-in-TooLong : goal.loop-keyword-preserved-in-TooLong
loop-keyword-preserved-in-TooLong g c =
    let i = c.loop-keyword.invariant in
    let p = c.in-TooLong.ensures.span in
    let t = long_part _ _ _ _ _ p.0 p.1 p.2.uses p.3 c.in-TooLong.ensures.token.1.1 in
    record {
      block = long_read _ _ _ _ _ _ _ _ _ i.block c.in-TooLong.line p.0 t p.1 c.read_long.ensures.fault;
      used = some_then i.used (some_run p.2.uses);
      starts = i.starts;
      calls_source = calls_then i.calls_source c.next_token.ensures.calls_source;
      spanned = long_spanned _ _ _ _ _ _ _ _ c.read_long.new.self i.block i.used c.in-TooLong.line p.0 t _ p.2 p.3 p.1 _ i.spanned c.read_long.ensures.fault _ c.after-span.ensures;
    }

pub loop-keyword-preserved : goal.loop-keyword-preserved
loop-keyword-preserved g c =
    let i = c.loop-keyword.invariant in
    let t = c.next_token.ensures.token in
    let word = rw c.in-Word.is at t in
    let used = rw c.in-Word.is at c.next_token.ensures.used in
    let span = rw c.in-Word.is at c.next_token.ensures.span in
    let r = c.read_word.ensures.read in
    let is : last_of (command_of c.next_token.new.word.bytes.items) ≡ None = sym c.read_word.ensures.closes ∙ c.in-None.is in
    record {
      block = skip_read _ _ _ _ _ _ _ (open_read _ _ _ _ _ _ _ _ _ i.block _ _ r.fault (λ none. r) word.0 (not_closing _ is))
          c.skip_on.ensures.skips c.skip_on.ensures.sound;
      used = some_skipped (some_then i.used (some_run used.0)) c.skip_on.ensures.skips;
      starts = i.starts;
      calls_source = rw c.skip_on.ensures.skips.end (calls_then i.calls_source c.next_token.ensures.calls_source);
      spanned = word_spanned _ _ _ _ _ _ _ _ _ i.block i.used _ _ word.0 _ span used.1 _ i.spanned r.fault (λ none. r) _ c.after-span-in-Word.ensures;
    }

pub returns-in-Some-clause-item : goal.returns-in-Some-clause-item
returns-in-Some-clause-item g c =
    let i = c.loop-keyword.invariant in
    let new : ReaderState = record { next = c.next_after-self-inside.result; at = c.next_token.new.scanner } in
    rw c.item_at_close.ensures (word_closes _ _ new _ _ i.starts _ _ _ _ i.block _ _ c.in-Word.ensures.token.0 c.read_word.ensures.read c.in-Some.last _
    refl (sym c.read_word.ensures.closes ∙ c.in-Some.is) c.next_after-self-inside.ensures)

pub returns-in-Some-clause-used : goal.returns-in-Some-clause-used
returns-in-Some-clause-used g c =
    let i = c.loop-keyword.invariant in
    let following : ReaderState = record { next = c.next_after-self-inside.result; at = c.next_token.new.scanner } in
    rw c.item_at_close.ensures (closed_item _ _ following _ _ (g.S.Source.remaining c.next_token.new.source) _ _
    (word_used _ _ following _ _ _ _ _ i.block i.used _ _ c.in-Some.last c.in-Word.ensures.token.0 c.in-Word.ensures.used
    (sym c.read_word.ensures.closes ∙ c.in-Some.is) c.next_after-self-inside.ensures) (search rules) (search rules))

pub returns-in-Ended-clause-used : goal.returns-in-Ended-clause-used
returns-in-Ended-clause-used g c =
    let i = c.loop-keyword.invariant in
    let new : ReaderState = record { next = Nothing; at = c.next_token.new.scanner } in
    let u = c.in-Ended.ensures.used in
    rw c.item_at_end.ensures (inr (end_used _ _ new _ _ _ _ _ i.block i.used c.in-Ended.ensures.token.0 u.0 (inl u.1)))

pub returns-in-Cut-clause-used : goal.returns-in-Cut-clause-used
returns-in-Cut-clause-used g c =
    let i = c.loop-keyword.invariant in
    let new : ReaderState = record { next = c.next_after-self-inside-in-Cut.result; at = c.next_token.new.scanner } in
    let u = c.in-Cut.ensures.used in
    inr (end_used _ _ new _ _ _ _ _ i.block i.used (cut_takes c.in-Cut.cut c.in-Cut.ensures.token) u.0 (inr (c.in-Cut.cut, u.1)))

pub returns-in-Ended-clause-item : goal.returns-in-Ended-clause-item
returns-in-Ended-clause-item g c =
    let i = c.loop-keyword.invariant in
    let new : ReaderState = record { next = Nothing; at = c.next_token.new.scanner } in
    rw c.item_at_end.ensures (input_ends _ _ new _ _ i.starts _ _ _ i.block c.in-Ended.line c.in-Ended.ensures.token refl)

pub returns-in-Cut-clause-item : goal.returns-in-Cut-clause-item
returns-in-Cut-clause-item g c =
    let i = c.loop-keyword.invariant in
    let reported = c.item_of_cut-last.ensures in
    let new : ReaderState = record { next = c.next_after-self-inside-in-Cut.result; at = c.next_token.new.scanner } in
    rw reported (cut_read _ _ new _ _ i.starts _ _ _ i.block c.loop-keyword.block.fault c.in-Cut.cut refl c.in-Cut.ensures.token
    (c.next_after-self-inside-in-Cut.ensures ∙ ap (λ t. next_after t.1) reported))

pub returns-in-Some-clause-failed : goal.returns-in-Some-clause-failed
returns-in-Some-clause-failed g c =
    rw c.item_at_close.ensures
    (word_closes_textual _ _ _ _ _ _ _ _ _ c.loop-keyword.invariant.block _ _ c.in-Word.ensures.token.0 c.read_word.ensures.read c.in-Some.last)

pub returns-in-Ended-clause-failed : goal.returns-in-Ended-clause-failed
returns-in-Ended-clause-failed g c =
    rw c.item_at_end.ensures
    (ended_textual c.next_token.new.scanner c.loop-keyword.block c.in-Ended.line (block_fault_textual _ _ _ _ _ _ c.loop-keyword.invariant.block))

pub returns-in-Cut-clause-failed : goal.returns-in-Cut-clause-failed
returns-in-Cut-clause-failed g c = rw c.item_of_cut-last.ensures
    (cut_failed _ _ _ _ c.loop-keyword.block.fault c.in-Cut.cut c.in-Cut.ensures.token (block_fault_textual _ _ _ _ _ _ c.loop-keyword.invariant.block))

pub returns-in-Some-clause-span : goal.returns-in-Some-clause-span
returns-in-Some-clause-span g c =
    let i = c.loop-keyword.invariant in
    let new : ReaderState = record { next = c.next_after-self-inside.result; at = c.next_token.new.scanner } in
    let r = c.read_word.ensures.read in
    let word = c.in-Word.ensures.token in
    rw c.item_at_close.ensures (close_spanned _ new _ _ _ c.read_word.new.block _ c.in-Some.last
    (word_spanned _ _ _ _ _ _ _ _ _ i.block i.used _ _ word.0 _ c.in-Word.ensures.span c.in-Word.ensures.used.1 _ i.spanned r.fault (λ none. r) _
    c.after-span-in-Word.ensures)
    (λ none. closing_word _ _ _ _ _ _ _ _ _ i.block i.used _ _ word.0 _ c.in-Word.ensures.span c.in-Word.ensures.used.1 _ i.spanned r.fault (λ x. r) _
    c.after-span-in-Word.ensures none (closing_command _ c.in-Some.last (sym c.read_word.ensures.closes ∙ c.in-Some.is))))

pub returns-in-Ended-clause-span : goal.returns-in-Ended-clause-span
returns-in-Ended-clause-span g c =
    let i = c.loop-keyword.invariant in
    let new : ReaderState = record { next = Nothing; at = c.next_token.new.scanner } in
    let u = c.in-Ended.ensures.used in
    rw c.item_at_end.ensures (end_spanned _ new _ _ _ _ _ i.block i.used c.in-Ended.ensures.token.0 u.0 (inl u.1) _ i.spanned _
    (c.after-span-in-Ended.ensures ∙ rw c.in-Ended.ensures.span refl) c.in-Ended.line)

pub returns-in-Cut-clause-span : goal.returns-in-Cut-clause-span
returns-in-Cut-clause-span g c =
    let i = c.loop-keyword.invariant in
    let new : ReaderState = record { next = c.next_after-self-inside-in-Cut.result; at = c.next_token.new.scanner } in
    let u = c.in-Cut.ensures.used in
    rw c.item_of_cut-last.ensures (cut_spanned _ new _ _ _ _ _ i.block i.used (cut_takes c.in-Cut.cut c.in-Cut.ensures.token) u.0 (inr (c.in-Cut.cut, u.1)) _
    i.spanned _ (c.after-span-in-Cut.ensures ∙ rw c.in-Cut.ensures.span refl) c.in-Cut.cut)
