-- What the calls of the page return (own).
use Rattle.std.specs.Prelude.{◌≡◌, ◌≤◌, ℕ, ◌^◌, ◌==◌, min, List, [], length, Some, Bool, true, false, if◌then◌else◌}
use Rattle.pop_text.specs.Words.{Input, Clean}
use Rattle.pop_events.specs.declared.event.Phase.{Phase}
use Rattle.pop_events.specs.declared.event.Phase.TheVariants.{Set, Play}
use Rattle.pop_run.specs.declared.choice.Choice.{Choice}
use Rattle.pop_run.specs.Report.{ItemText, entry_text}
use Rattle.pop_run.specs.Run.{RunsBy}
use Rattle.pop_run.specs.declared.status.Status.{Status}
use Rattle.pop_run.specs.declared.status.Status.TheVariants.{Sound, Faulty, InputFailed, OutputFailed}
use Rattle.pop_parts.specs.Parts.{parts_line}
use Rattle.pop_tries_run.specs.Report.{most_refutations, tries_entry_text}
use Rattle.pop_parts.specs.Runs.{Shows as PartsRun}
use Rattle.pop_parts.specs.declared.request.PartRequest.{PartRequest}
use Rattle.pop_parts.specs.declared.request.Outcome.{Outcome}
use Rattle.pop_parts.specs.declared.request.Outcome.TheVariants.{Shown, NoItem, FaultyItem, NoPhase, NoPart, InputFailed as PartsBroken, OutputFailed as PartsCut}

-- the size of the output, in bytes
abbrev pub room : ℕ
room = 2 ^ 22

-- the result if the output is smaller
abbrev pub too_small : ℕ
too_small = 4

-- the bytes that a sink has taken, and how many of its calls failed
pub record MemoryOutput : Type 0 where
  pub taken : List ℕ
  pub failures : ℕ

-- a text as an input that ends cleanly
abbrev pub whole_input : List ℕ → Input
whole_input text = record { bytes = text; ending = Clean }

-- the number of a status
abbrev pub status_number : Status → ℕ
status_number Sound = 0
status_number Faulty = 1
status_number InputFailed = 2
status_number OutputFailed = 3

-- the number of an outcome
abbrev pub outcome_number : Outcome → ℕ
outcome_number Shown = 0
outcome_number FaultyItem = 1
outcome_number PartsBroken = 2
outcome_number PartsCut = 3
outcome_number NoItem = 5
outcome_number NoPhase = 6
outcome_number NoPart = 7

-- the phase of the flag for set play
abbrev pub phase_of : Bool → Phase
phase_of true = Set
phase_of false = Play

-- how many first moves a part of help play fixes: at least one
abbrev pub depth_of : ℕ → ℕ
depth_of depth = if depth == 0 then 1 else depth

-- one part of the first item
abbrev pub part_of : Bool → ℕ → ℕ → PartRequest
part_of set_play depth number = record {
  item = 1;
  phase = phase_of set_play;
  first = number;
  last = number;
  depth = depth_of depth;
}

-- A call that writes to memory: `shown` is what it writes, at most `room` bytes, and the result is the number of its
-- ending. If the text is cut, `shown` has as many bytes as fit.
pub record Fills (Ending : Type 0) (number : Ending → ℕ)
    (Does : List ℕ → Bool → Ending → Type 0) (shown : List ℕ) (answer : ℕ) : Type 0 where
  pub cut : Bool
  pub ending : Ending
  pub reported : answer ≡ number ending
  pub does : Does shown cut ending
  pub fits : length shown ≤ room
  pub full : cut ≡ true → length shown ≡ room

-- The bytes are the joined texts of the items, and the result is the number of the text's status. Or the bytes are a
-- beginning of these texts, as many bytes as fit and not all, and the result is the number of a failed output.
abbrev pub ShowsItems : ItemText → List ℕ → List ℕ → ℕ → Type 0
ShowsItems item_text text shown answer = Fills Status status_number
    (λ bytes cut ending. RunsBy item_text (whole_input text) (Some []) (Some bytes) cut ending)
    shown answer

-- the report of `pops` is shown
abbrev pub Shows : Choice → List ℕ → List ℕ → ℕ → Type 0
Shows choice = ShowsItems (entry_text choice)

-- the greatest number of refutations of a try that the page asks for
abbrev pub most_of : ℕ → ℕ
most_of refutations = min refutations most_refutations

-- the report of `pops-tries` is shown, with all boards or none, and tries with at most this number of refutations
abbrev pub ShowsTries : Bool → ℕ → List ℕ → List ℕ → ℕ → Type 0
ShowsTries no_board refutations = ShowsItems
    (tries_entry_text (record { check = false; no_board = no_board }) (most_of refutations))

-- the list of parts is shown
abbrev pub Lists : ℕ → List ℕ → List ℕ → ℕ → Type 0
Lists depth = ShowsItems (parts_line depth)

-- The bytes are the text of the parts, and the result is the number of the outcome; or they are a beginning of the
-- text, as many bytes as fit and not all, and the result is the number of a failed output.
abbrev pub ShowsParts : PartRequest → List ℕ → List ℕ → ℕ → Type 0
ShowsParts request text shown answer = Fills Outcome outcome_number
    (λ bytes cut ending. PartsRun request (whole_input text) (Some []) (Some bytes) cut ending)
    shown
    answer
