-- The report of an input, and its status (own layout and statuses).
use Rattle.std.specs.Prelude.{ℕ, ◌+◌, List, [], ◌∷◌, ◌++◌, Bool, true, false, if◌then◌else◌, codes}
use Rattle.std.specs.List.{flat_map, list_any}
use Rattle.pop_text.specs.Words.{Input, words_of}
use Rattle.pop_input.specs.Blocks.{Entry, Sound as SoundEntry, Faulty as FaultyEntry, entries_of}
use Rattle.pop_input.specs.FaultKinds.{is_device_failure}
use Rattle.pop_input.specs.Posed.{Posed}
use Rattle.pop_walk.specs.Events.{events_of}
use Rattle.pop_print.specs.Events.{event_text}
use Rattle.pop_print.specs.Faults.{fault_text}
use Rattle.pop_print.specs.Heads.{head_text}
use Rattle.run_settings.specs.declared.Settings.{Settings}
pub use Rattle.pop_run.specs.declared.choice.Choice.{Choice}
use Rattle.pop_run.specs.declared.status.Status.{Status}
use Rattle.pop_run.specs.declared.status.Status.TheVariants.{Sound, Faulty, InputFailed}

-- the settings that a report depends on: whether problems are only tested, and whether boards are left out
abbrev pub choice_of : Settings → Choice
choice_of settings = record { check = settings.check; no_board = settings.no_board }

-- the solutions of a problem
abbrev pub solutions_text : Posed → List ℕ
solutions_text posed = flat_map event_text (events_of posed)

-- the text of an item, by its number
abbrev pub ItemText : Type 0
ItemText = ℕ → Entry → List ℕ

-- what follows the head of a sound problem: its play, or that it is sound if problems are only tested
abbrev pub play_text : (Posed → List ℕ) → Bool → Posed → List ℕ
play_text play true posed = codes "sound\n"
play_text play false posed = play posed

-- the text of an item, by the text of a problem's play
unfoldable pub entry_text_by : (Posed → List ℕ) → Choice → ItemText
entry_text_by play choice number (SoundEntry posed) = head_text number posed choice.no_board
    ++ play_text play choice.check posed ++ codes "\n"
entry_text_by play choice number (FaultyEntry fault) = fault_text number fault

-- the text of an item in the report of `pops`
abbrev pub entry_text : Choice → ItemText
entry_text choice = entry_text_by solutions_text choice

-- the joined texts of items, the first with this number
abbrev pub report_from : ItemText → ℕ → List Entry → List ℕ
report_from text number [] = []
report_from text number (entry ∷ entries) = text number entry
    ++ report_from text (number + 1) entries

-- the entries of an input
unfoldable pub entries_in : Input → List Entry
entries_in input = entries_of true (words_of input)

-- the texts of an input's items, numbered from 1
abbrev pub report_by : ItemText → Input → List ℕ
report_by text input = report_from text 1 (entries_in input)

-- the report of an input
abbrev pub report : Choice → Input → List ℕ
report choice input = report_by (entry_text choice) input

-- whether an item is the fault that the input device failed
abbrev pub reports_device_failure : Entry → Bool
reports_device_failure (SoundEntry posed) = false
reports_device_failure (FaultyEntry fault) = is_device_failure fault.kind

-- whether an item is a fault
abbrev pub is_faulty : Entry → Bool
is_faulty (SoundEntry posed) = false
is_faulty (FaultyEntry fault) = true

-- the status of items: a failed device outweighs other faults
unfoldable pub status_of : List Entry → Status
status_of entries = if list_any reports_device_failure entries then InputFailed
    else (if list_any is_faulty entries then Faulty else Sound)

-- the status of an input
abbrev pub status : Input → Status
status input = status_of (entries_in input)
