-- What was read of an input, item by item.
use Rattle.pop_parts.proofs.Words.{Entry, FaultyEntry, IfSome, Input, IsEndSeen, Item, List, NextItem, None, Open, Option, Reads, ReadsItems, Some, SoundEntry, ReaderState, Stopped, UsesEntry, UsesItem, [], all_to_come, ap, append-nil, arith, closings, entries_in, entries_left, entry_in, failures_after, false, initial_state, is_item, is_some, grew_broken, grew_more, grew_same, has_grown, input_met, length, not, reads_then, refl, still_more, stopped_reads_words, sym, taken_of, true, ℕ, ◌++◌, ◌+◌, ◌∙◌, ◌∷◌, ◌≡◌, ◌≤◌}
use Rattle.pop_input.proofs.Taking.{some_rest}
use Rattle.pop_input.specs.declared.item.Item.TheVariants.{Sound, Faulty, End as NoItem}
use Rattle.pop_input.specs.declared.reader.Next.TheVariants.{Nothing}
use Rattle.pop_run.proofs.Meeting.{is_broken, met_after}
use Rattle.pop_run.specs.ties.Sessions.{ends}

-- an item that is one was read
pub item_read : (old new : ReaderState) (had left : Option (List ℕ)) (item : Item) (entry : Entry) → NextItem old new had left item
    → entry_in item ≡ Some entry → Reads old new had left (entry ∷ [])
item_read old new had left item entry p is = grind arith

-- the items of the input are the items read and others after them
pub items_met : (now : ReaderState) (left : Option (List ℕ)) (r : List ℕ) (items : List Entry) → Reads initial_state now (Some r) left items
    → IsEndSeen now.at.end left → (more : List Entry) × (entries_in (input_met (is_broken now.at.end) r left) ≡ items ++ more)
items_met now left r items all seen =
    let m = met_after now.at.end left r all.bytes all.taken seen in
    (entries_left now m.0, ap entries_in m.2 ∙ sym (all_to_come _) ∙ all.begin m.0 m.1)

none_after : (place : ReaderState) (rest : Input) → place.next ≡ Nothing → entries_left place rest ≡ []
none_after place rest is = grind arith

-- after the last item no other is to come
pub all_met : (old now : ReaderState) (mid left : Option (List ℕ)) (r : List ℕ) (items : List Entry) (item : Item)
    → Reads initial_state old (Some r) mid items → NextItem old now mid left item → entry_in item ≡ None
    → IsEndSeen now.at.end left → entries_in (input_met (is_broken now.at.end) r left) ≡ items
all_met old now mid left r items NoItem all (nothing, same, over) none seen =
    let whole = reads_then initial_state old now (Some r) mid left items [] all over in
    let m = met_after now.at.end left r whole.bytes whole.taken seen in
    let over_is : entries_left now m.0 ≡ [] = none_after now m.0 (ap (λ s. s.next) same ∙ nothing) in
    ap entries_in m.2 ∙ sym (all_to_come _) ∙ whole.begin m.0 m.1 ∙ rw (over_is, append-nil, append-nil) refl
all_met old now mid left r items (Sound posed last) all p none seen = absurd (let no : Some (SoundEntry posed) ≡ None = none in cc)
all_met old now mid left r items (Faulty fault last) all p none seen = absurd (let no : Some (FaultyEntry fault) ≡ None = none in cc)

-- a count that stayed shows no failure
pub kept_is_reported : (n m : ℕ) → m ≡ n → has_grown n m ≡ false
kept_is_reported n m is = rw (is, grew_same) refl

-- a count that grew shows a failure
pub failure_is_reported : (n m : ℕ) → m ≡ n + 1 → has_grown n m ≡ true
failure_is_reported n m is = rw (is, grew_more) refl

-- an item that isn't the end is an entry
pub entry_there : (found : Option Entry) → not (is_some found) ≡ false → (entry : Entry) × (found ≡ Some entry)
entry_there None h = absurd (let no : true ≡ false = h in cc)
entry_there (Some entry) h = (entry, refl)

-- an absent entry is `None`
pub none_there : (found : Option Entry) → not (is_some found) ≡ true → found ≡ None
none_there None h = refl
none_there (Some entry) h = absurd (let no : false ≡ true = h in cc)

-- an entry is an item
pub item_there : (item : Item) (entry : Entry) → entry_in item ≡ Some entry → is_item item ≡ true
item_there item entry is = grind arith

-- How far a call reads.

-- where an item was read one was still to come, and its bytes are used
pub took : (old new : ReaderState) (had left : Option (List ℕ)) (item : Item) (entry : Entry) → NextItem old new had left item
    → UsesItem old new had left item → entry_in item ≡ Some entry → (ends old.next ≡ false) × UsesEntry old new had left entry
took old new had left item entry p u is =
    let r = some_rest new.at.end in
    (still_more old new had left entry r.0 r.1 (item_read old new had left item entry p is), grind arith)

-- after the last item nothing more is read
pub last_read : (old new : ReaderState) (mid left : Option (List ℕ)) (item : Item) → NextItem old new mid left item → UsesItem old new mid left item
    → entry_in item ≡ None → (ends old.next ≡ true) × (new ≡ old) × (left ≡ mid)
last_read old new mid left NoItem (nothing, same, over) u none = (rw nothing refl, same, u.1)
last_read old new mid left (Sound posed last) p u none = absurd (let no : Some (SoundEntry posed) ≡ None = none in cc)
last_read old new mid left (Faulty fault last) p u none = absurd (let no : Some (FaultyEntry fault) ≡ None = none in cc)

-- a call that stops has read no further than an item, where no more of the words used close one
pub reads_items : (number : ℕ) (new : ReaderState) (had left : Option (List ℕ)) (n m : ℕ) (s : Stopped new had left) → (1 ≤ number → closings s.tokens ≤ number)
    → IsEndSeen new.at.end left → length new.at.window ≤ 4096 → m ≡ failures_after Open new.at.end n
    → IfSome had (λ r. ReadsItems number (input_met (has_grown n m) r left) (taken_of r left))
reads_items number new None left n m s closed seen few reads = tt
reads_items number new (Some r) left n m s closed seen few reads =
    let w = stopped_reads_words (λ tokens. 1 ≤ number → closings tokens ≤ number) new r left s closed seen few in
    rw (grew_broken new.at.end n m reads) (record { reads = w.0; few = w.1 })
