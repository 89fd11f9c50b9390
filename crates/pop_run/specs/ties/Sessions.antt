-- The state of a session, and what a step does (own).
use Rattle.std.specs.Prelude.{◌≡◌, ℕ, ◌+◌, List, [], ◌∷◌, Option, Result, Ok, Err, Bool, true, false, not}
use Rattle.pop_text.specs.Bytes.{Appends, Begins, Keeps}
use Rattle.pop_text.specs.declared.sink.SinkFault.{SinkFault}
use Rattle.pop_input.specs.declared.item.Last.{Last}
use Rattle.pop_input.specs.declared.item.Last.TheVariants.{Yes, No}
use Rattle.pop_input.specs.declared.reader.Next.{Next}
use Rattle.pop_input.specs.declared.reader.Next.TheVariants.{First, Later, Nothing}
use Rattle.pop_input.specs.Blocks.{Entry}
use Rattle.pop_input.specs.ties.ReaderState.{ReaderState, Reads, initial_state}
use Rattle.pop_input.specs.ties.Used.{UsesEntry}
use Rattle.pop_run.specs.Report.{ItemText, is_faulty, reports_device_failure}
use Rattle.pop_run.specs.declared.status.Status.{Status}
use Rattle.pop_run.specs.declared.status.Status.TheVariants.{Sound, Faulty, InputFailed}
use Rattle.pop_run.specs.declared.status.Step.{Step}
use Rattle.pop_run.specs.declared.status.Step.TheVariants.{Problem, Finished}

-- the state of a session: the reader's state, the next item's number, the status so far, whether the sink has failed,
-- and the writer of items
pub record RunState (A : Type 0) : Type 0 where
  pub at : ReaderState
  pub number : ℕ
  pub status : Status
  pub stopped : Bool
  pub writer : A

-- whether no block is next
abbrev pub ends : Next → Bool
ends First = false
ends Later = false
ends Nothing = true

-- whether the item is the last
abbrev pub is_last : Last → Bool
is_last Yes = true
is_last No = false

-- an item is still to come, and the sink hasn't failed
pub record HasMore {A : Type 0} (place : RunState A) : Type 0 where
  pub more : ends place.at.next ≡ false
  pub running : place.stopped ≡ false

-- the state before the first item
abbrev pub first_state : {A : Type 0} → A → RunState A
first_state writer = record {
  at = initial_state;
  number = 1;
  status = Sound;
  stopped = false;
  writer = writer;
}

-- the status after one more item: a failed device outweighs everything, and a fault outweighs `Sound`
abbrev pub status_with : Status → Bool → Bool → Status
status_with so_far true faulty = InputFailed
status_with so_far false false = so_far
status_with Sound false true = Faulty
status_with so_far false true = so_far

-- A step reads one item and the bytes that it uses, and counts it in the number and the status.
pub record TakesItem {A : Type 0} (old new : RunState A) (had left : Option (List ℕ))
    (entry : Entry) : Type 0 where
  pub reads : Reads old.at new.at had left (entry ∷ [])
  pub used : UsesEntry old.at new.at had left entry
  pub number : new.number ≡ old.number + 1
  pub status : new.status
      ≡ status_with old.status (reports_device_failure entry) (is_faulty entry)
  pub writer : new.writer ≡ old.writer

-- what a step does, by the text of an item that a writer writes
abbrev pub Steps : {A : Type 0} → (A → ItemText) → RunState A → RunState A → Option (List ℕ)
    → Option (List ℕ) → Option (List ℕ) → Option (List ℕ) → Result Step SinkFault → Type 0
Steps text old new had left before now (Ok (Problem sound)) =
    (entry : Entry) × TakesItem old new had left entry
    × Appends before now (text old.writer old.number entry)
    × (new.stopped ≡ false) × (sound ≡ not (is_faulty entry))
Steps text old new had left before now (Ok (Finished status)) =
    (ends old.at.next ≡ true) × (new ≡ old) × (left ≡ had) × Keeps before now
    × (status ≡ old.status)
Steps text old new had left before now (Err fault) =
    (entry : Entry) × TakesItem old new had left entry
    × Begins before now (text old.writer old.number entry) × (new.stopped ≡ true)

-- whether a step reported an item
abbrev pub is_problem : Result Step SinkFault → Bool
is_problem (Ok (Problem sound)) = true
is_problem (Ok (Finished status)) = false
is_problem (Err fault) = false

-- the result of a step that printed an item, by the result of printing
abbrev pub step_of : {A : Type 0} → Result A SinkFault → Step → Result Step SinkFault
step_of (Ok done) step = Ok step
step_of (Err fault) step = Err fault
