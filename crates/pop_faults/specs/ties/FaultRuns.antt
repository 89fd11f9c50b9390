-- What `list_faults` does (own).
use Rattle.std.specs.Prelude.{◌≡◌, ℕ, List, [], ◌∷◌, ◌++◌, Option, Some, Bool, true, false}
use Rattle.pop_text.specs.Bytes.{Appends, Begins}
use Rattle.pop_text.specs.Words.{Input}
use Rattle.pop_input.specs.Blocks.{Entry, Sound as SoundEntry, Faulty as FaultyEntry}
use Rattle.pop_input.specs.declared.item.Item.{Item}
use Rattle.pop_input.specs.declared.item.Item.TheVariants.{Sound, Faulty}
use Rattle.pop_input.specs.declared.item.Last.{Last}
use Rattle.pop_input.specs.ties.Spans.{HasSpan}
use Rattle.pop_input.specs.ties.ReaderState.{NextItem, ReaderState, initial_state}
use Rattle.pop_input.specs.ties.Used.{UsesItem}
use Rattle.pop_run.specs.Report.{entries_in, status}
use Rattle.pop_run.specs.Run.{input_met}
use Rattle.pop_run.specs.declared.status.Status.{Status}
use Rattle.pop_run.specs.declared.status.Status.TheVariants.{OutputFailed}
use Rattle.pop_faults.specs.FaultList.{Located, entries_of, faults_from}

-- an entry as the item of a reader, the last one or not
abbrev pub item_of : Entry → Last → Item
item_of (SoundEntry posed) last = Sound posed last
item_of (FaultyEntry fault) last = Faulty fault last

-- From old to new this item is read and its bytes are used, and its span is the one where it is found.
pub record IsLocated (old new : ReaderState) (had left : Option (List ℕ)) (item : Located)
    : Type 0 where
  pub last : Last
  pub read : NextItem old new had left (item_of item.entry last)
  pub used : UsesItem old new had left (item_of item.entry last)
  pub found : HasSpan old new had left (item_of item.entry last) item.span

-- From old to new these items are read, one after another, and their spans are those where they are found.
abbrev pub AreLocated : ReaderState → ReaderState → Option (List ℕ) → Option (List ℕ) → List Located
    → Type 0
AreLocated old new had left [] = (new ≡ old) × (left ≡ had)
AreLocated old new had left (item ∷ items) = (mid : ReaderState) × (between : Option (List ℕ))
    × IsLocated old mid had between item × AreLocated mid new between left items

-- The list of all items of the input is written, and its status returned. If the sink fails, these are the first items
-- of the input, and a beginning of their list is written, not all of it.
abbrev pub ListsItems : Input → List Located → Option (List ℕ) → Option (List ℕ) → Bool → Status
    → Type 0
ListsItems input items before now false answer = (entries_in input ≡ entries_of items)
    × Appends before now (faults_from 1 items) × (answer ≡ status input)
ListsItems input items before now true answer = (more : List Entry)
    × (entries_in input ≡ entries_of items ++ more)
    × Begins before now (faults_from 1 items) × (answer ≡ OutputFailed)

-- A call that lists the faults of the input that it meets: the source had these bytes, then it had those that are left,
-- and it has failed or not.
pub record ListsFaults (had : List ℕ) (left : Option (List ℕ)) (failed : Bool)
    (before now : Option (List ℕ)) (cut : Bool) (answer : Status) : Type 0 where
  pub items : List Located
  pub at : ReaderState
  pub located : AreLocated initial_state at (Some had) left items
  pub lists : ListsItems (input_met failed had left) items before now cut answer
