-- The state of a reader, and which items a call reads (own).
use Rattle.std.specs.Prelude.{◌≡◌, ℕ, List, [], ◌∷◌, ◌++◌, Option, None, Bool, true, false, ◌+◌, ◌-◌, length}
use Rattle.pop_text.specs.Bytes.{Consumes}
use Rattle.pop_text.specs.Words.{Input, limit}
use Rattle.pop_text.specs.ties.Reading.{Reading, first_reading}
use Rattle.pop_text.specs.ties.Left.{onto_input, MayFollow, words_left}
use Rattle.pop_input.specs.Blocks.{Entry, Sound as SoundEntry, Faulty as FaultyEntry, entries_of}
use Rattle.pop_input.specs.FaultKinds.{is_device_failure}
use Rattle.pop_input.specs.declared.item.Last.{Last}
use Rattle.pop_input.specs.declared.item.Last.TheVariants.{Yes, No}
use Rattle.pop_input.specs.declared.item.Item.{Item}
use Rattle.pop_input.specs.declared.item.Item.TheVariants.{Sound, Faulty, End}
use Rattle.pop_text.specs.declared.scanner.End.TheVariants.{Broken}
use Rattle.pop_input.specs.declared.reader.Next.{Next}
use Rattle.pop_input.specs.declared.reader.Next.TheVariants.{First, Later, Nothing}

-- the state of a reader: which block is next, and the state of its scanner
pub record ReaderState : Type 0 where
  pub next : Next
  pub at : Reading

-- the state before the first item
abbrev pub initial_state : ReaderState
initial_state = record { next = First; at = first_reading }

-- the entries of the rest of an input, if this block is next
abbrev pub entries_at : Next → Reading → Input → List Entry
entries_at First context rest = entries_of true (words_left None context rest)
entries_at Later context rest = entries_of false (words_left None context rest)
entries_at Nothing context rest = []

-- the entries still to come, if the source continues with this rest
abbrev pub entries_left : ReaderState → Input → List Entry
entries_left standing rest = entries_at standing.next standing.at rest

-- A call that reads these entries: it takes some bytes from the source, and however the source continues, these entries
-- are the first of those still to come.
pub record Reads (old new : ReaderState) (had left : Option (List ℕ)) (entries : List Entry) : Type
    0 where
  pub bytes : List ℕ
  pub taken : Consumes had left bytes
  pub follows : (rest : Input) → MayFollow new.at.end rest
      → MayFollow old.at.end (onto_input bytes rest)
  pub begin : (rest : Input) → MayFollow new.at.end rest
      → entries_left old (onto_input bytes rest) ≡ entries ++ entries_left new rest
  pub amount : length bytes + (old.at.used + length old.at.window)
      ≡ new.at.used + length new.at.window

-- which block is next after an item
abbrev pub next_after : Last → Next
next_after Yes = Nothing
next_after No = Later

-- what `next_problem` does
abbrev pub NextItem : ReaderState → ReaderState → Option (List ℕ) → Option (List ℕ) → Item → Type 0
NextItem old new had left (Sound problem last) = Reads old new had left (SoundEntry problem ∷ [])
    × (new.next ≡ next_after last)
NextItem old new had left (Faulty fault last) = Reads old new had left (FaultyEntry fault ∷ [])
    × (new.next ≡ next_after last)
NextItem old new had left End = (old.next ≡ Nothing) × (new ≡ old) × Reads old new had left []

-- how much may still be read, if this block is next: a measure that falls with every item
abbrev pub work_by : Next → ℕ → ℕ
work_by Nothing used = 0
work_by First used = limit - used + 1
work_by Later used = limit - used + 1

-- how much may still be read in this state
abbrev pub work_left : ReaderState → ℕ
work_left standing = work_by standing.next standing.at.used

-- whether the result of a call is an item, and not the end
abbrev pub is_item : Item → Bool
is_item End = false
is_item (Sound problem last) = true
is_item (Faulty fault last) = true

-- the fault that a device failed is reported only if the source has failed
abbrev pub HasFailed : Reading → Item → Type 0
HasFailed context (Sound problem last) = Unit {0}
HasFailed context (Faulty fault last) = is_device_failure fault.kind ≡ true → context.end ≡ Broken
HasFailed context End = Unit {0}
