-- The span of a fault.
use Rattle.pop_input.proofs.Words.{Advances, Block, Bool, Command, ComesNext, CutsOff, Device, Entry, Err, Fault, IsInputOver, IsNew, IsRunOver, List, Long, NextToken, None, Ok, Option, ReadFault, Reading, ReaderState, ReadsWord, Result, Some, Sound, Tail, Takes, TakesNothing, TakesPart, TextLine, Token, TooLong, Uses, UsesAll, UsesRun, UsesSome, UsesToken, Word, WordTooLong, Yes, [], among, ap, append-nil, append_assoc, arith, at_line, closes, command_of, cut_fault, ended_by, ended_item, entry_now, false, fault_at, fault_of, inl, inr, item_of, item_of_cut, judged_entry, last_of, length, length-append, limit, list_all, list_all-append, or_else, posed_entry, refl, subst, sym, true, uses_then, ℕ, ◌++◌, ◌<◌, ◌∙◌, ◌∷◌, ◌≡◌, ◌≤◌}
use Rattle.std.specs.Prelude.{IfOk, IfSome}
use Rattle.pop_text.proofs.Left.{count_then, gap_takes, long_takes}
use Rattle.pop_text.specs.Words.{Broken as Failing, End as AtEnd, is_gap}
use Rattle.pop_text.specs.declared.read_fault.ReadFault.TheVariants.{InputTooLong}
use Rattle.pop_text.specs.declared.word.Word.{Word as Room}
use Rattle.pop_input.specs.Blocks.{Faulty as FaultyEntry}
use Rattle.pop_input.specs.declared.item.Item.TheVariants.{Faulty as FaultyItem}
use Rattle.pop_input.specs.declared.item.Last.{Last}
use Rattle.pop_input.specs.declared.span.Span.{Span}
use Rattle.pop_input.specs.declared.token.ReadToken.{ReadToken}
use Rattle.pop_input.specs.declared.token.ReadToken.TheVariants.{Word as AWord, TooLong as LongWord, Line, Ended, Cut}
use Rattle.pop_input.specs.ties.Spans.{EndsWord, HasSpan, IsClosingWord, IsFaultyWord, is_first, span_by, span_from}
use Rattle.pop_input.specs.ties.Tokens.{IsGapOver, IsSpanOf, UsesRunAt, range_of}
use Rattle.pop_input.proofs.Items.{BlockSoFar, long_fault, word_read}
use Rattle.pop_input.proofs.Taking.{takes_then}
use Rattle.pop_input.proofs.Used.{some_all, some_then}

-- Gaps.

-- a state in which no gap comes next is within the limit
gap_within : (new : Reading) (r : Result (Option ℕ) ReadFault) → ComesNext new r → new.used ≤ limit
gap_within new r comes = grind arith

not_gap : (b : ℕ) (rest taken gap run window : List ℕ) → (b ∷ rest) ++ taken ≡ (gap ++ run) ++ window → is_gap b ≡ false → list_all is_gap gap ≡ true → gap ≡ []
not_gap b rest taken [] run window e out blank = refl
not_gap b rest taken (c ∷ gap) run window e out blank = absurd (grind (arith, e, out, blank))

nothing_left : (gap run window : List ℕ) → [] ≡ (gap ++ run) ++ window → gap ≡ []
nothing_left [] run window e = refl
nothing_left (c ∷ gap) run window e = absurd (grind (arith, e))

module _ (old new : Reading) (had left : Option (List ℕ)) (line : ℕ) (run : List ℕ) (u : UsesRun old new had left line run) where
  gap_by : (r : Result (Option ℕ) ReadFault) → ComesNext old r → IfOk r (λ o. IfSome o (λ b. is_gap b ≡ false)) → Advances old new → u.gap ≡ []
  gap_by (Ok (Some b)) comes out on = not_gap b comes.0 u.uses.taken u.gap run new.window
      (subst (λ window. window ++ u.uses.taken ≡ (u.gap ++ run) ++ new.window) comes.1 u.uses.unread) out u.blank
  gap_by (Ok None) comes out on = nothing_left u.gap run new.window (grind arith)
  gap_by (Err (TooLong number)) comes out on = absurd comes
  gap_by (Err (InputTooLong number)) comes out on = absurd (omega (arith, comes.1, on.0, on.1))
  gap_by (Err (Device number)) comes out on = nothing_left u.gap run new.window (grind arith)

  -- a run that is used where no gap comes next has no gap before it
  no_gap : IsGapOver old → Advances old new → u.gap ≡ []
  no_gap over on = gap_by over.next over.comes over.other on

-- Tokens after a gap.

abbrev run_after : {old mid new : Reading} {had met left : Option (List ℕ)} {number : ℕ} {run : List ℕ} → UsesAll is_gap old mid had met
    → UsesRun mid new met left number run → UsesRun old new had left number run
run_after {old} gap u = record {
  gap = gap.bytes ++ u.gap;
  blank = list_all-append is_gap gap.bytes u.gap ∙ rw (gap.all, u.blank) refl;
  solid = u.solid;
  uses = rw append_assoc (uses_then gap.uses u.uses);
  line = omega (arith, u.line, gap.uses.line, count_then old.line gap.bytes u.gap);
}

module _ (old mid new : Reading) (had met left : Option (List ℕ)) (gap : UsesAll is_gap old mid had met) (over : IsGapOver mid) where
  none_before : Takes (among old) (among mid) had met []
  none_before = gap_takes gap (gap_within mid over.next over.comes)

  part_after : (part : Token) → TakesPart mid new met left part → TakesPart old new had left part
  part_after part t = (
    takes_then (among old) (among mid) (among new) had met left [] (part ∷ []) none_before t.0,
    (omega (arith, gap.uses.used, t.1.0), t.1.1),
  )

  nothing_after : (tail : Tail) (line : ℕ) → TakesNothing mid new met left tail line → TakesNothing old new had left tail line
  nothing_after tail line t = (
    takes_then (among old) (among mid) (among new) had met left [] [] none_before t.0,
    t.1,
    t.2,
    (omega (arith, gap.uses.used, t.3.0), t.3.1),
  )

  cut_after : (fault : ReadFault) → CutsOff mid new met left fault → CutsOff old new had left fault
  cut_after (TooLong line) t = absurd t
  cut_after (InputTooLong line) t = nothing_after Long line t
  cut_after (Device line) t = (nothing_after Failing line t.0, t.1)

  -- a token is the same after a gap
  pub token_after : (word : Room) (text : List ℕ) (token : ReadToken) → NextToken mid new met left word text token
      → NextToken old new had left word text token
  token_after word text AWord t = (part_after (Word word.line word.bytes.items) t.0, t.1)
  token_after word text (LongWord line) t = (t.0, part_after (Word line t.0) t.1, t.2)
  token_after word text (Line keyword) t = (t.0, t.1, t.2, part_after (TextLine t.0 t.1 t.2) t.3, t.4, t.5)
  token_after word text (Ended line) t = nothing_after AtEnd line t
  token_after word text (Cut fault) t = cut_after fault t

  -- the bytes of a gap and a token
  pub uses_after : (word : Room) (token : ReadToken) → UsesToken mid new met left word token → UsesToken old new had left word token
  uses_after word AWord u = (run_after gap u.0, u.1)
  uses_after word (LongWord line) u = (u.0, u.1, run_after gap u.2, u.3)
  uses_after word (Line keyword) u = some_then (some_all gap) u
  uses_after word (Ended line) u = (some_then (some_all gap) u.0, u.1)
  uses_after word (Cut fault) u = (some_then (some_all gap) u.0, u.1)

  run_at : (number : ℕ) (run : List ℕ) (u : UsesRun mid new met left number run) → Advances mid new
      → UsesRunAt old new had left number run (span_from mid.used new.used)
  run_at number run u on =
      let none = no_gap mid new met left number run u over on in
      record {
        uses = run_after gap u;
        start = omega (arith, gap.uses.used, length-append gap.bytes u.gap, ap length none);
        end = refl;
      }

  span_by_token : (word : Room) (text : List ℕ) (token : ReadToken) → NextToken mid new met left word text token → UsesToken mid new met left word token
      → IsSpanOf old new had left word (range_of token mid.used new.used) token
  span_by_token word text AWord t u = run_at word.line word.bytes.items u.0 t.0.1
  span_by_token word text (LongWord line) t u = (u.0, u.1, run_at line u.0 u.2 t.1.1, u.3)
  span_by_token word text (Line keyword) t u = tt
  span_by_token word text (Ended line) t u = refl
  span_by_token word text (Cut fault) t u = refl

  -- the span of a token after a gap
  pub span_after : (word : Room) (text : List ℕ) (token : ReadToken) (span : Span) (start end : ℕ) → NextToken mid new met left word text token
      → UsesToken mid new met left word token → start ≡ mid.used → end ≡ new.used → span ≡ range_of token start end
      → IsSpanOf old new had left word span token
  span_after word text token span start end t u from to is = rw (is, from, to) (span_by_token word text token t u)

-- a word that is too long is a token
pub long_part : (old new : Reading) (had left : Option (List ℕ)) (line : ℕ) (run : List ℕ) → 160 < length run → UsesRun old new had left line run
    → IsRunOver new → Advances old new → TakesPart old new had left (Word line run)
long_part old new had left line run long u over on = (long_takes old new had left line run long u over, on)

-- Blocks.

-- a block of which nothing is read has no fault
pub fresh_span : (first new : Bool) (old : Reading) (had : Option (List ℕ)) (block : Block) (span : Span) → IsNew new block → (fault : Fault)
    → block.fault ≡ Some fault → IsFaultyWord first old had fault span
fresh_span first new old had block span n fault now = absurd (grind (arith, n.fault, now))

module _ (first : Bool) (old at new : Reading) (had met left : Option (List ℕ)) (block next : Block) (b : BlockSoFar first old at had met block)
    (s : UsesSome old at had met) (line : ℕ) (word : List ℕ) (t : TakesPart at new met left (Word line word)) (here : Span)
    (p : UsesRunAt at new met left line word here) (over : IsRunOver new) where
  word_uses : Uses old new had left ((s.bytes ++ p.uses.gap) ++ word)
  word_uses = rw append_assoc (uses_then s.uses p.uses.uses)

  -- the span of a word
  ends_word : EndsWord old new had left b.done line word here
  ends_word = record {
    plain = b.plain;
    before = s.bytes ++ p.uses.gap;
    solid = p.uses.solid;
    used = record {
      uses = word_uses;
      takes = takes_then (among old) (among at) (among new) had met left b.done (Word line word ∷ []) b.takes t.0;
    };
    over = over;
    start = omega (arith, p.start, s.uses.used, length-append s.bytes p.uses.gap);
    end = p.end ∙ word_uses.used;
  }

  module _ (span : Span) (spanned : (fault : Fault) → block.fault ≡ Some fault → IsFaultyWord first old had fault span)
      (reads : next.fault ≡ or_else block.fault (at_line line (fault_of block.begun block.draft word)))
      (r : next.fault ≡ None → ReadsWord block next line word) where
    faulty_by : (known : Option Fault) → block.fault ≡ known → (fault : Fault) → next.fault ≡ Some fault
        → IsFaultyWord first old had fault (span_by known span here)
    faulty_by (Some known) is fault now = spanned fault (grind (arith, is, now, reads))
    faulty_by None is fault now = record {
      front = b.done;
      line = line;
      word = word;
      sound = sym b.fault ∙ is;
      faulty = sym (word_read first old at new had met left block next b line word reads r).0 ∙ now;
      new = new;
      left = left;
      ends = ends_word;
    }

    -- the span of the first faulty word, after one more word
    pub word_spanned : (now : Span) → now ≡ span_by block.fault span here → (fault : Fault) → next.fault ≡ Some fault
        → IsFaultyWord first old had fault now
    word_spanned now is fault f = rw is (faulty_by block.fault refl fault f)

    closing_by : (known : Option Fault) → block.fault ≡ known → next.fault ≡ None → closes (command_of word) ≡ true
        → IsClosingWord first old new had left (span_by known span here)
    closing_by (Some known) is none c = absurd (grind (arith, is, none, reads))
    closing_by None is none c = record {
      front = b.done;
      line = line;
      word = word;
      sound = sym (word_read first old at new had met left block next b line word reads r).0 ∙ none;
      closes = c;
      ends = ends_word;
    }

    -- the span of a closing word, if no word is faulty
    pub closing_word : (now : Span) → now ≡ span_by block.fault span here → next.fault ≡ None → closes (command_of word) ≡ true
        → IsClosingWord first old new had left now
    closing_word now is none c = rw is (closing_by block.fault refl none c)

  -- the span of the first faulty word, after one more word that is too long
  pub long_spanned : 160 < length word → (span : Span) → ((fault : Fault) → block.fault ≡ Some fault → IsFaultyWord first old had fault span)
      → next.fault ≡ or_else block.fault (Some (fault_at WordTooLong line)) → (now : Span) → now ≡ span_by block.fault span here → (fault : Fault)
      → next.fault ≡ Some fault → IsFaultyWord first old had fault now
  long_spanned long span spanned is = word_spanned span spanned
      (is ∙ ap (λ n. or_else block.fault (at_line line n)) (sym (long_fault block.begun block.draft word long))) (λ none. absurd (grind (arith, is, none)))

-- a command that makes an item the last or not closes a block
pub closing_command : (c : Option Command) (last : Last) → last_of c ≡ Some last → closes c ≡ true
closing_command c last h = grind arith

-- Items.

entry_spanned : (old new : ReaderState) (had left : Option (List ℕ)) (span : Span) (entry : Entry) (last : Last)
    → IsClosingWord (is_first old.next) old.at new.at had left span → HasSpan old new had left (item_of entry last) span
entry_spanned old new had left span (Sound problem) last c = c
entry_spanned old new had left span (FaultyEntry fault) last c = inr (inl c)

-- the span of the item that a word closes
pub close_spanned : (old new : ReaderState) (had left : Option (List ℕ)) (span : Span) (block : Block) (line : ℕ) (last : Last)
    → ((fault : Fault) → block.fault ≡ Some fault → IsFaultyWord (is_first old.next) old.at had fault span)
    → (block.fault ≡ None → IsClosingWord (is_first old.next) old.at new.at had left span)
    → HasSpan old new had left (item_of (entry_now block line) last) span
close_spanned old new had left span block line last faulty sound = by_fault block.fault faulty sound
  where
    by_fault : (f : Option Fault) → ((fault : Fault) → f ≡ Some fault → IsFaultyWord (is_first old.next) old.at had fault span)
        → (f ≡ None → IsClosingWord (is_first old.next) old.at new.at had left span)
        → HasSpan old new had left (item_of (judged_entry f block.draft block.title block.author line) last) span
    by_fault (Some fault) p q = inl (p fault refl)
    by_fault None p q = entry_spanned old new had left span (posed_entry block.draft block.title block.author line) last (q refl)

module _ (old new : ReaderState) (mid : Reading) (had met left : Option (List ℕ)) (block : Block) (b : BlockSoFar (is_first old.next) old.at mid had met block)
    (s : UsesSome old.at mid had met) (t : Takes (among mid) (among new.at) met left []) (u : UsesSome mid new.at met left) (over : IsInputOver new.at)
    (span : Span) (spanned : (fault : Fault) → block.fault ≡ Some fault → IsFaultyWord (is_first old.next) old.at had fault span) where
  end_uses : Uses old.at new.at had left (s.bytes ++ u.bytes)
  end_uses = uses_then s.uses u.uses

  end_by : (known : Option Fault) → block.fault ≡ known → (other : Fault) (last : Last)
      → HasSpan old new had left (FaultyItem (ended_by known other) last) (span_by known span (span_from new.at.used new.at.used))
  end_by (Some fault) is other last = inl (spanned fault is)
  end_by None is other last = inr (inr (record {
    tokens = b.done;
    plain = b.plain;
    sound = sym b.fault ∙ is;
    bytes = s.bytes ++ u.bytes;
    used = record {
      uses = end_uses;
      takes = subst (λ d. Takes (among old.at) (among new.at) had left d) (append-nil b.done)
          (takes_then (among old.at) (among mid) (among new.at) had met left b.done [] b.takes t);
    };
    over = over;
    start = end_uses.used;
    end = end_uses.used;
  }))

  -- the span of a block in which the input ends
  pub end_spanned : (now : Span) → now ≡ span_by block.fault span (span_from new.at.used new.at.used) → (line : ℕ)
      → HasSpan old new had left (ended_item block line) now
  end_spanned now is line = rw is (end_by block.fault refl _ Yes)

  cut_by : (known : Option Fault) (cut : ReadFault) → HasSpan old new had left (FaultyItem (ended_by known (cut_fault cut)) (item_of_cut known cut).1)
      (span_by known span (span_from new.at.used new.at.used))
      → HasSpan old new had left (FaultyItem (item_of_cut known cut).0 (item_of_cut known cut).1) (span_by known span (span_from new.at.used new.at.used))
  cut_by (Some fault) cut h = h
  cut_by None cut h = h

  -- the span of a block in which the input is cut
  pub cut_spanned : (now : Span) → now ≡ span_by block.fault span (span_from new.at.used new.at.used) → (cut : ReadFault)
      → HasSpan old new had left (FaultyItem (item_of_cut block.fault cut).0 (item_of_cut block.fault cut).1) now
  cut_spanned now is cut = rw is (cut_by block.fault cut (end_by block.fault refl (cut_fault cut) (item_of_cut block.fault cut).1))
