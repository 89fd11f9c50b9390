-- The items that are read so far, and their list.
use Rattle.std.proofs.Common.{Bool, IfSome, List, None, Option, Some, [], ap, append_assoc, arith, false, length, length-append, not, refl, sym, true, ℕ, ◌++◌, ◌+◌, ◌∙◌, ◌∷◌, ◌≡◌, ◌≤◌}
use Rattle.std.proofs.lemmas.List.{append-nil}
use Rattle.pop_text.proofs.Appending.{appends_none, appends_then, begins_later}
use Rattle.pop_text.specs.Bytes.{Appends, Begins}
use Rattle.pop_text.specs.Words.{Input}
use Rattle.pop_text.specs.declared.scanner.End.TheVariants.{Open}
use Rattle.pop_text.specs.ties.Reading.{IsEndSeen, failures_after}
use Rattle.pop_input.proofs.Taking.{some_rest}
use Rattle.pop_input.specs.Blocks.{Entry, Sound as SoundEntry, Faulty as FaultyEntry}
use Rattle.pop_input.specs.declared.item.Item.{Item}
use Rattle.pop_input.specs.declared.item.Item.TheVariants.{Sound, Faulty, End}
use Rattle.pop_input.specs.declared.span.Span.{Span}
use Rattle.pop_input.specs.declared.reader.Next.TheVariants.{Nothing}
use Rattle.pop_input.specs.ties.Spans.{HasSpan}
use Rattle.pop_input.specs.ties.ReaderState.{NextItem, ReaderState, Reads, entries_left, initial_state, is_item}
use Rattle.pop_input.specs.ties.Used.{UsesEntry, UsesItem}
use Rattle.pop_run.proofs.Meeting.{is_broken, met_after}
use Rattle.pop_run.proofs.Reached.{Reached, Stopped, item_reached, item_stops, reached_start, still_more, stopped_last, stopped_reads}
use Rattle.pop_run.proofs.Running.{all_to_come, grew_broken, grew_more, grew_same, reads_then, status_more}
unfoldable use Rattle.pop_run.specs.Report.{status_of}
use Rattle.pop_run.specs.Report.{entries_in, is_faulty, reports_device_failure}
use Rattle.pop_run.specs.Run.{ReadsUpTo, has_grown, input_met, taken_of}
use Rattle.pop_run.specs.declared.status.Status.{Status}
use Rattle.pop_run.specs.declared.status.Status.TheVariants.{OutputFailed, Sound as AllSound}
use Rattle.pop_run.specs.ties.Sessions.{ends, status_with}
use Rattle.pop_faults.specs.FaultList.{Located, entries_of, entry_line, faults_from}
use Rattle.pop_faults.specs.ties.FaultRuns.{AreLocated, IsLocated, ListsFaults}
use Rattle.pop_faults.specs.ties.ReadItems.{item_text, status_after}

-- Lists of items.

-- the items of two lists without their spans
entries-append : (xs ys : List Located) → entries_of (xs ++ ys) ≡ entries_of xs ++ entries_of ys
entries-append [] ys = refl
entries-append (x ∷ xs) ys = ap (λ entries. x.entry ∷ entries) (entries-append xs ys)

-- the list of two lists is the list of the first, then the list of the second
faults-append : (n : ℕ) (xs ys : List Located) → faults_from n (xs ++ ys) ≡ faults_from n xs ++ faults_from (n + length xs) ys
faults-append n [] ys = ap (λ k. faults_from k ys) (omega arith)
faults-append n (x ∷ xs) ys = grind (arith, append_assoc, faults-append (n + 1) xs ys)

-- items that are read one after another
located_then : (old mid new : ReaderState) (had between left : Option (List ℕ)) (xs ys : List Located) → AreLocated old mid had between xs
    → AreLocated mid new between left ys → AreLocated old new had left (xs ++ ys)
located_then old mid new had between left [] ys p q = rw (← p.0, ← p.1) q
located_then old mid new had between left (x ∷ xs) ys (at, middle, one, others) q =
    (at, middle, one, located_then at mid new middle between left xs ys others q)

-- One item.

-- what a call of the reader says of the item that it returned
record Took (old new : ReaderState) (had left : Option (List ℕ)) (item : Item) (span : Span) : Type 0 where
  it : Located
  is : IsLocated old new had left it
  reads : Reads old new had left (it.entry ∷ [])
  used : UsesEntry old new had left it.entry
  more : ends old.next ≡ false
  text : (number : ℕ) → item_text number item span ≡ entry_line number it.entry it.span
  status : (so_far : Status) → status_after so_far item ≡ status_with so_far (reports_device_failure it.entry) (is_faulty it.entry)

took : (old new : ReaderState) (had left : Option (List ℕ)) (item : Item) (span : Span) → NextItem old new had left item
    → HasSpan old new had left item span → UsesItem old new had left item → is_item item ≡ true → Took old new had left item span
took old new had left (Sound posed last) span next found used one =
    let rest = some_rest new.at.end in
    record {
      it = record { entry = SoundEntry posed; span = span };
      is = record { last = last; read = next; used = used; found = found };
      reads = next.0;
      used = used;
      more = still_more old new had left (SoundEntry posed) rest.0 rest.1 next.0;
      text = λ number. refl;
      status = λ so_far. refl;
    }
took old new had left (Faulty fault last) span next found used one =
    let rest = some_rest new.at.end in
    record {
      it = record { entry = FaultyEntry fault; span = span };
      is = record { last = last; read = next; used = used; found = found };
      reads = next.0;
      used = used;
      more = still_more old new had left (FaultyEntry fault) rest.0 rest.1 next.0;
      text = λ number. refl;
      status = λ so_far. refl;
    }
took old new had left End span next found used one = absurd (let no : false ≡ true = one in cc)

-- All items so far.

-- From the beginning to now these items were read, and their list was written.
pub record Listed (now : ReaderState) (number : ℕ) (so_far : Status) (had left before taken : Option (List ℕ)) : Type 0 where
  pub items : List Located
  pub located : AreLocated initial_state now had left items
  pub reads : Reads initial_state now had left (entries_of items)
  pub written : Appends before taken (faults_from 1 items)
  pub number_is : number ≡ 1 + length items
  pub status_is : so_far ≡ status_of (entries_of items)
  pub reached : Reached now had left

-- before the first item none is read
pub listed_start : (had before : Option (List ℕ)) → Listed initial_state 1 AllSound had had before before
unfolding status_of
listed_start had before = record {
  items = [];
  located = (refl, refl);
  reads = record { bytes = []; taken = grind arith; follows = λ rest may. may; begin = λ rest may. refl; amount = refl };
  written = appends_none before;
  number_is = refl;
  status_is = refl;
  reached = reached_start had;
}

module _ (old new : ReaderState) (number : ℕ) (so_far : Status) (had mid left before taken : Option (List ℕ)) (item : Item) (span : Span)
    (p : Listed old number so_far had mid before taken) (t : Took old new mid left item span) where
  -- the items with this one
  abbrev items : List Located
  items = p.items ++ t.it ∷ []

  located : AreLocated initial_state new had left items
  located = located_then initial_state old new had mid left p.items (t.it ∷ []) p.located (new, left, t.is, (refl, refl))

  reads : Reads initial_state new had left (entries_of items)
  reads = rw (entries-append p.items (t.it ∷ []))
      (reads_then initial_state old new had mid left (entries_of p.items) (t.it.entry ∷ []) p.reads t.reads)

  list : faults_from 1 items ≡ faults_from 1 p.items ++ item_text number item span
  list = faults-append 1 p.items (t.it ∷ []) ∙ ap (λ text. faults_from 1 p.items ++ text) (
      append-nil (entry_line (1 + length p.items) t.it.entry t.it.span)
      ∙ ap (λ n. entry_line n t.it.entry t.it.span) (sym p.number_is)
      ∙ sym (t.text number)
      )

  -- one more item is read, and its line written
  listed_more : (now : Option (List ℕ)) → Appends taken now (item_text number item span)
      → Listed new (number + 1) (status_after so_far item) had left before now
  listed_more now written = record {
    items = items;
    located = located;
    reads = reads;
    written = rw list (appends_then before taken now _ _ p.written written);
    number_is = ap (λ n. n + 1) p.number_is ∙ omega (arith, length-append p.items (t.it ∷ []));
    status_is = t.status so_far ∙ ap (λ s. status_with s (reports_device_failure t.it.entry) (is_faulty t.it.entry)) p.status_is
        ∙ sym (status_more (entries_of p.items) t.it.entry) ∙ ap status_of (sym (entries-append p.items (t.it ∷ [])));
    reached = item_reached old new had mid left p.reached t.more t.it.entry t.used;
  }

  stops : Stopped new had left
  stops = item_stops old new had mid left p.reached t.more t.it.entry t.used

-- one more item is read, and its line written
pub listed_step : (old new : ReaderState) (number : ℕ) (so_far : Status) (had mid left before taken now : Option (List ℕ)) (item : Item) (span : Span)
    → Listed old number so_far had mid before taken → NextItem old new mid left item → HasSpan old new mid left item span
    → UsesItem old new mid left item → is_item item ≡ true → Appends taken now (item_text number item span)
    → Listed new (number + 1) (status_after so_far item) had left before now
listed_step old new number so_far had mid left before taken now item span p next found used one written =
    listed_more old new number so_far had mid left before taken item span p (took old new mid left item span next found used one) now written

-- the entries that were read come first in the input that was met
entries_met : (now : ReaderState) (left : Option (List ℕ)) (r : List ℕ) (entries : List Entry) → Reads initial_state now (Some r) left entries
    → IsEndSeen now.at.end left → (more : List Entry) × (entries_in (input_met (is_broken now.at.end) r left) ≡ entries ++ more)
entries_met now left r entries all seen =
    let m = met_after now.at.end left r all.bytes all.taken seen in
    (entries_left now m.0, ap entries_in m.2 ∙ sym (all_to_come _) ∙ all.begin m.0 m.1)

none_after : (now : ReaderState) (rest : Input) → now.next ≡ Nothing → entries_left now rest ≡ []
none_after now rest is = grind arith

-- after the last item the entries that were read are all of the input's
all_met : (now : ReaderState) (left : Option (List ℕ)) (r : List ℕ) (entries : List Entry) → Reads initial_state now (Some r) left entries
    → now.next ≡ Nothing → IsEndSeen now.at.end left → entries_in (input_met (is_broken now.at.end) r left) ≡ entries
all_met now left r entries all nothing seen =
    let m = met_after now.at.end left r all.bytes all.taken seen in
    ap entries_in m.2 ∙ sym (all_to_come _) ∙ all.begin m.0 m.1 ∙ rw (none_after now m.0 nothing, append-nil) refl

-- after the last item nothing is read
at_end : (old new : ReaderState) (had left : Option (List ℕ)) (item : Item) → NextItem old new had left item → UsesItem old new had left item
    → is_item item ≡ false → (old.next ≡ Nothing) × (new ≡ old) × (left ≡ had)
at_end old new had left End next used none = (next.0, used.0, used.1)
at_end old new had left (Sound posed last) next used none = absurd (let no : true ≡ false = none in cc)
at_end old new had left (Faulty fault last) next used none = absurd (let no : true ≡ false = none in cc)

-- a run that meets the end of its input lists all its faults
pub run_ends : (old new : ReaderState) (number : ℕ) (so_far : Status) (had mid left before now : Option (List ℕ)) (item : Item) (n m v w : ℕ)
    → Listed old number so_far had mid before now → NextItem old new mid left item → UsesItem old new mid left item → is_item item ≡ false
    → IsEndSeen new.at.end left → m ≡ failures_after Open new.at.end n → w ≡ v
    → IfSome had (λ r. ListsFaults r left (has_grown n m) before now (has_grown v w) so_far)
run_ends old new number so_far None mid left before now item n m v w p next used none seen reads writes = tt
run_ends old new number so_far (Some r) mid left before now item n m v w p next used none seen reads writes =
    let over = at_end old new mid left item next used none in
    let there : IsEndSeen old.at.end mid = rw (over.1, over.2) at seen in
    let met = all_met old mid r (entries_of p.items) p.reads over.0 there in
    rw (grew_broken new.at.end n m reads, writes, grew_same v, over.1, over.2) (record {
      items = p.items;
      at = old;
      located = p.located;
      lists = (met, p.written, p.status_is ∙ ap status_of (sym met));
    })

-- how far it has read
pub end_reads : (old new : ReaderState) (number : ℕ) (so_far : Status) (had mid left before now : Option (List ℕ)) (item : Item) (n m : ℕ)
    → Listed old number so_far had mid before now → NextItem old new mid left item → UsesItem old new mid left item → is_item item ≡ false
    → IsEndSeen new.at.end left → length new.at.window ≤ 4096 → m ≡ failures_after Open new.at.end n
    → IfSome had (λ r. ReadsUpTo (input_met (has_grown n m) r left) (taken_of r left))
end_reads old new number so_far None mid left before now item n m p next used none seen few reads = tt
end_reads old new number so_far (Some r) mid left before now item n m p next used none seen few reads =
    let over = at_end old new mid left item next used none in
    let last : ends old.next ≡ true = rw over.0 refl in
    rw (grew_broken new.at.end n m reads) (stopped_reads new r left (rw (over.1, over.2) (stopped_last p.reached last)) seen few)

-- a run whose sink fails writes a beginning of the list of the items that it has read
pub run_cut : (old new : ReaderState) (number : ℕ) (so_far : Status) (had mid left before taken now : Option (List ℕ)) (item : Item) (span : Span)
    (n m v w : ℕ) → Listed old number so_far had mid before taken → NextItem old new mid left item → HasSpan old new mid left item span
    → UsesItem old new mid left item → is_item item ≡ true → IsEndSeen new.at.end left → Begins taken now (item_text number item span)
    → m ≡ failures_after Open new.at.end n → w ≡ v + 1
    → IfSome had (λ r. ListsFaults r left (has_grown n m) before now (has_grown v w) OutputFailed)
run_cut old new number so_far None mid left before taken now item span n m v w p next found used one seen begun reads writes = tt
run_cut old new number so_far (Some r) mid left before taken now item span n m v w p next found used one seen begun reads_failed writes =
    let t = took old new mid left item span next found used one in
    let all = reads old new number so_far (Some r) mid left before taken item span p t in
    let met = entries_met new left r _ all seen in
    let text = list old new number so_far (Some r) mid left before taken item span p t in
    rw (grew_broken new.at.end n m reads_failed, writes, grew_more v) (record {
      items = items old new number so_far (Some r) mid left before taken item span p t;
      at = new;
      located = located old new number so_far (Some r) mid left before taken item span p t;
      lists = (met.0, met.1, rw text (begins_later before taken now (faults_from 1 p.items) _ p.written begun), refl);
    })

-- how far it has read
pub cut_reads : (old new : ReaderState) (number : ℕ) (so_far : Status) (had mid left before taken : Option (List ℕ)) (item : Item) (span : Span)
    (n m : ℕ) → Listed old number so_far had mid before taken → NextItem old new mid left item → HasSpan old new mid left item span
    → UsesItem old new mid left item → is_item item ≡ true → IsEndSeen new.at.end left → length new.at.window ≤ 4096
    → m ≡ failures_after Open new.at.end n → IfSome had (λ r. ReadsUpTo (input_met (has_grown n m) r left) (taken_of r left))
cut_reads old new number so_far None mid left before taken item span n m p next found used one seen few reads_failed = tt
cut_reads old new number so_far (Some r) mid left before taken item span n m p next found used one seen few reads_failed =
    let t = took old new mid left item span next found used one in
    rw (grew_broken new.at.end n m reads_failed)
    (stopped_reads new r left (stops old new number so_far (Some r) mid left before taken item span p t) seen few)

-- whether an item was returned, by the test of the code
pub item_there : (one found : Bool) → found ≡ not one → found ≡ false → one ≡ true
item_there true found is there = refl
item_there false found is there = absurd (let no : true ≡ false = sym is ∙ there in cc)

pub none_there : (one found : Bool) → found ≡ not one → found ≡ true → one ≡ false
none_there false found is there = refl
none_there true found is there = absurd (let no : false ≡ true = sym is ∙ there in cc)
