-- The requested parts, in the input that was read.
use Rattle.pop_parts.proofs.Words.{Appends, Begins, Bool, Entry, Faulty, IfSome, IsEndSeen, Item, List, NextItem, None, Open, Option, Reached, Reads, ReadsItems, Shows, Some, Sound, ReaderState, UsesItem, [], any_more, ap, arith, closings, entries_in, entry_in, entry_numbered, failures_after, false, initial_state, grew_broken, has_grown, input_met, is_failure, item_reached, item_stops, last_few, length, length-append, list_any, outcome_at, reached_few, reached_start, reads_then, refl, slice_get, start_few, stopped_last, stops_few, sym, taken_of, reports_device_failure, text_at, ℕ, ◌++◌, ◌+◌, ◌-◌, ◌<◌, ◌||◌, ◌∙◌, ◌∷◌, ◌≡◌, ◌≢◌, ◌≤◌}
use Rattle.std.proofs.lemmas.Option.{slice_get_past}
use Rattle.pop_text.proofs.Appending.{appends_none}
use Rattle.pop_run.proofs.Meeting.{is_broken}
use Rattle.pop_parts.proofs.Reading.{all_met, failure_is_reported, item_read, items_met, kept_is_reported, last_read, reads_items, took}
use Rattle.pop_parts.specs.declared.request.PartRequest.{PartRequest}
use Rattle.pop_parts.specs.declared.request.Outcome.{Outcome}
use Rattle.pop_parts.specs.declared.request.Outcome.TheVariants.{OutputFailed}

-- These items were read so far: none has the requested number, and they report a failed device exactly if
-- `failed`.
pub record Skipped (wanted : ℕ) (now : ReaderState) (number : ℕ) (failed : Bool) (had left : Option (List ℕ)) : Type 0 where
  pub items : List Entry
  pub reads : Reads initial_state now had left items
  pub number_is : number ≡ 1 + length items
  pub failed_is : failed ≡ list_any reports_device_failure items
  pub early : 0 < wanted → number ≤ wanted
  pub reached : Reached now had left
  pub few : closings reached.tokens ≤ length items

-- before the first item none was skipped
pub skipped_start : (wanted : ℕ) (had : Option (List ℕ)) → Skipped wanted initial_state 1 false had had
skipped_start wanted had = record {
  items = [];
  reads = record { bytes = []; taken = grind arith; follows = λ rest may. may; begin = λ rest may. refl; amount = refl };
  number_is = refl;
  failed_is = refl;
  early = λ some. omega (arith, some);
  reached = reached_start had;
  few = start_few had;
}

-- one more item, which isn't the one
pub skipped_step : (wanted : ℕ) (old new : ReaderState) (number : ℕ) (failed : Bool) (had mid left : Option (List ℕ)) (item : Item) (entry : Entry)
    → Skipped wanted old number failed had mid → NextItem old new mid left item → UsesItem old new mid left item → entry_in item ≡ Some entry
    → number ≢ wanted → Skipped wanted new (number + 1) (failed || is_failure (entry_in item)) had left
skipped_step wanted old new number failed had mid left item entry p q u is another = rw is (record {
  items = p.items ++ entry ∷ [];
  reads = reads_then initial_state old new had mid left p.items (entry ∷ []) p.reads (item_read old new mid left item entry q is);
  number_is = ap (λ n. n + 1) p.number_is ∙ omega (arith, length-append p.items (entry ∷ []));
  failed_is = ap (λ b. b || reports_device_failure entry) p.failed_is ∙ sym (any_more reports_device_failure p.items entry);
  early = λ some. let so_far = p.early some in omega (arith, so_far, another);
  reached = let t = took old new mid left item entry q u is in item_reached old new had mid left p.reached t.0 entry t.1;
  few = let t = took old new mid left item entry q u is in
      omega (arith, p.few, reached_few old new had mid left p.reached t.0 entry t.1, length-append p.items (entry ∷ []));
})

-- beyond the last item there is none
not_there : (items : List Entry) (wanted : ℕ) → (0 < wanted → 1 + length items ≤ wanted) → entry_numbered items wanted ≡ None
not_there items wanted late = grind (arith, slice_get_past items (wanted - 1))

get_seam : (xs : List Entry) (y : Entry) (ys : List Entry) → slice_get ((xs ++ y ∷ []) ++ ys) (length xs) ≡ Some y
get_seam [] y ys = refl
get_seam (x ∷ xs) y ys = get_seam xs y ys

found_there : (items : List Entry) (entry : Entry) (more : List Entry) (wanted : ℕ) → 1 + length items ≡ wanted
    → entry_numbered ((items ++ entry ∷ []) ++ more) wanted ≡ Some entry
found_there items entry more wanted is = grind (arith, get_seam items entry more)

-- the input has no item of this number
pub item_missing : (request : PartRequest) (old new : ReaderState) (number : ℕ) (failed : Bool) (had mid left before : Option (List ℕ)) (item : Item)
    (answer : Outcome)
    (n m v w : ℕ) → Skipped request.item old number failed had mid → NextItem old new mid left item → entry_in item ≡ None → IsEndSeen new.at.end left
    → answer ≡ outcome_at request failed None → m ≡ failures_after Open new.at.end n → w ≡ v
    → IfSome had (λ r. Shows request (input_met (has_grown n m) r left) before before (has_grown v w) answer)
item_missing request old new number failed None mid left before item answer n m v w p q is seen reported reads writes = tt
item_missing request old new number failed (Some r) mid left before item answer n m v w p q is seen reported reads writes =
    let items = all_met old new mid left r p.items item p.reads q is seen in
    let none = not_there p.items request.item (λ some. rw p.number_is at (p.early some)) in
    rw (grew_broken new.at.end n m reads, kept_is_reported v w writes, items, none)
    (appends_none before, reported ∙ ap (λ b. outcome_at request b None) p.failed_is)

-- what comes of an item isn't changed by a failure elsewhere
any_failure : (request : PartRequest) (b c : Bool) (entry : Entry) → outcome_at request b (Some entry) ≡ outcome_at request c (Some entry)
any_failure request b c (Sound posed) = refl
any_failure request b c (Faulty fault) = refl

module _ (request : PartRequest) (old new : ReaderState) (number : ℕ) (failed : Bool) (mid left : Option (List ℕ)) (r : List ℕ) (item : Item) (entry : Entry)
    (p : Skipped request.item old number failed (Some r) mid) (q : NextItem old new mid left item) (is : entry_in item ≡ Some entry)
    (seen : IsEndSeen new.at.end left) (one : number ≡ request.item) where
  -- the item stands in the input at its number
  entry_met : entry_numbered (entries_in (input_met (is_broken new.at.end) r left)) request.item ≡ Some entry
  entry_met =
      let all = reads_then initial_state old new (Some r) mid left p.items (entry ∷ []) p.reads (item_read old new mid left item entry q is) in
      let following = items_met new left r (p.items ++ entry ∷ []) all seen in
      ap (λ entries. entry_numbered entries request.item) following.1 ∙ found_there p.items entry following.0 request.item (sym p.number_is ∙ one)

-- the item was found, and its text written
pub item_shown : (request : PartRequest) (old new : ReaderState) (number : ℕ) (failed : Bool) (had mid left before now : Option (List ℕ)) (item : Item)
    (entry : Entry)
    (answer : Outcome) (n m v w : ℕ) → Skipped request.item old number failed had mid → NextItem old new mid left item → entry_in item ≡ Some entry
    → IsEndSeen new.at.end left → number ≡ request.item → Appends before now (text_at request (entry_in item))
    → answer ≡ outcome_at request false (entry_in item) → m ≡ failures_after Open new.at.end n → w ≡ v
    → IfSome had (λ r. Shows request (input_met (has_grown n m) r left) before now (has_grown v w) answer)
item_shown request old new number failed None mid left before now item entry answer n m v w p q is seen one written reported reads writes = tt
item_shown request old new number failed (Some r) mid left before now item entry answer n m v w p q is seen one written reported reads writes =
    let there = entry_met request old new number failed mid left r item entry p q is seen one in
    rw (grew_broken new.at.end n m reads, kept_is_reported v w writes, there) (
      rw is at written,
      (rw is at reported) ∙ any_failure request false (list_any reports_device_failure (entries_in (input_met (is_broken new.at.end) r left))) entry,
    )

-- the sink cuts its text off
pub item_cut : (request : PartRequest) (old new : ReaderState) (number : ℕ) (failed : Bool) (had mid left before now : Option (List ℕ)) (item : Item)
    (entry : Entry)
    (n m v w : ℕ) → Skipped request.item old number failed had mid → NextItem old new mid left item → entry_in item ≡ Some entry
    → IsEndSeen new.at.end left → number ≡ request.item → Begins before now (text_at request (entry_in item))
    → m ≡ failures_after Open new.at.end n → w ≡ v + 1
    → IfSome had (λ r. Shows request (input_met (has_grown n m) r left) before now (has_grown v w) OutputFailed)
item_cut request old new number failed None mid left before now item entry n m v w p q is seen one begun reads writes = tt
item_cut request old new number failed (Some r) mid left before now item entry n m v w p q is seen one begun reads writes =
    let there = entry_met request old new number failed mid left r item entry p q is seen one in
    rw (grew_broken new.at.end n m reads, failure_is_reported v w writes, there) (rw is at begun, refl)

-- How far it reads: up to the item, or to the input's end.

-- where the wanted item is missing, up to the input's end
pub missing_reads : (wanted : ℕ) (old new : ReaderState) (number : ℕ) (failed : Bool) (had mid left : Option (List ℕ)) (item : Item) (n m : ℕ)
    → Skipped wanted old number failed had mid → NextItem old new mid left item → UsesItem old new mid left item → entry_in item ≡ None
    → IsEndSeen new.at.end left → length new.at.window ≤ 4096 → m ≡ failures_after Open new.at.end n
    → IfSome had (λ r. ReadsItems wanted (input_met (has_grown n m) r left) (taken_of r left))
missing_reads wanted old new number failed had mid left item n m p q u is =
    let l = last_read old new mid left item q u is in
    rw (l.1, l.2) (reads_items wanted old had mid n m (stopped_last p.reached l.0)
    (λ some. let early = p.early some in omega (arith, p.few, p.number_is, early, last_few p.reached l.0)))

-- where it was found, up to its end
pub found_reads : (wanted : ℕ) (old new : ReaderState) (number : ℕ) (failed : Bool) (had mid left : Option (List ℕ)) (item : Item) (entry : Entry) (n m : ℕ)
    → Skipped wanted old number failed had mid → NextItem old new mid left item → UsesItem old new mid left item → entry_in item ≡ Some entry → number ≡ wanted
    → IsEndSeen new.at.end left → length new.at.window ≤ 4096 → m ≡ failures_after Open new.at.end n
    → IfSome had (λ r. ReadsItems wanted (input_met (has_grown n m) r left) (taken_of r left))
found_reads wanted old new number failed had mid left item entry n m p q u is one =
    let t = took old new mid left item entry q u is in
    reads_items wanted new had left n m (item_stops old new had mid left p.reached t.0 entry t.1)
    (λ some. omega (arith, p.few, p.number_is, one, stops_few old new had mid left p.reached t.0 entry t.1))
