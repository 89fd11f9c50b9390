-- The list of an input's parts, and the text of requested parts (own layout).
use Rattle.std.specs.Prelude.{ℕ, ◌+◌, ◌-◌, ◌^◌, ◌==◌, nat_le, min, Bool, true, not, ◌&&◌, if◌then◌else◌, List, [], ◌++◌, map, take, drop, length, slice_get, codes, decimal, Option, Some, None}
use Rattle.std.specs.List.{flat_map, list_any}
use Rattle.chess_attacks.specs.RuleSet.{RuleSet}
use Rattle.pop_text.specs.Words.{Input}
use Rattle.pop_input.specs.Blocks.{Entry, Sound, Faulty}
use Rattle.pop_input.specs.Posed.{Posed, rule_of}
use Rattle.pop_walk.specs.Events.{Path, event_of, is_impossible_phase}
use Rattle.pop_parts.specs.PhaseParts.{parts, part_events}
use Rattle.pop_events.specs.declared.event.Phase.{Phase}
use Rattle.pop_events.specs.declared.event.Phase.TheVariants.{Set, Play}
use Rattle.pop_print.specs.Events.{event_text}
use Rattle.pop_run.specs.Report.{ItemText, entries_in, report_by, reports_device_failure}
use Rattle.pop_parts.specs.declared.request.PartRequest.{PartRequest}
use Rattle.pop_parts.specs.declared.request.Outcome.{Outcome}
use Rattle.pop_parts.specs.declared.request.Outcome.TheVariants.{Shown, NoItem, FaultyItem, NoPhase, NoPart, InputFailed}

-- the number of parts of a phase, up to the greatest u64; none if the phase isn't possible
abbrev pub reported_count : RuleSet → Posed → Phase → ℕ → Option ℕ
reported_count rule posed phase depth = if is_impossible_phase rule posed phase then None
    else Some (min (length (parts rule posed phase depth)) (2 ^ 64 - 1))

-- the number of parts of a phase, under the problem's own condition
unfoldable pub count_of : Posed → Phase → ℕ → Option ℕ
count_of posed phase depth = reported_count (rule_of posed.condition) posed phase depth

-- the text of a part count
abbrev pub count_text : Option ℕ → List ℕ
count_text None = codes "not possible"
count_text (Some count) = decimal count

-- the text for set play, if the problem has it
abbrev pub set_text : Posed → ℕ → List ℕ
set_text posed depth =
    if posed.set_play then codes "set " ++ count_text (count_of posed Set depth) ++ codes ", "
    else []

-- the line of an item
unfoldable pub parts_line : ℕ → ItemText
parts_line depth number (Sound posed) = decimal number ++ codes ": " ++ set_text posed depth
    ++ codes "play " ++ count_text (count_of posed Play depth) ++ codes "\n"
parts_line depth number (Faulty fault) = decimal number ++ codes ": faulty\n"

-- the list of an input: the lines of its items, numbered from 1
abbrev pub list_text : ℕ → Input → List ℕ
list_text depth input = report_by (parts_line depth) input

-- the item with this number, counted from 1
abbrev pub entry_numbered : List Entry → ℕ → Option Entry
entry_numbered entries number = if number == 0 then None else slice_get entries (number - 1)

-- the problem has the phase
abbrev pub has_phase : Posed → Phase → Bool
has_phase posed Set = posed.set_play
has_phase posed Play = true

-- the phase has all requested parts
abbrev pub has_parts : RuleSet → PartRequest → Posed → Bool
has_parts rule request posed = nat_le 1 request.first && nat_le request.first request.last
    && nat_le request.last (length (parts rule posed request.phase request.depth))

-- the text of a part: its events
unfoldable pub part_text : RuleSet → Posed → Phase → Path → List ℕ
part_text rule posed phase beginning = flat_map event_text
    (map (event_of rule posed) (part_events rule posed phase beginning))

-- the requested parts, in order
abbrev pub parts_requested : RuleSet → PartRequest → Posed → List Path
parts_requested rule request posed = take (request.last - request.first + 1)
    (drop (request.first - 1) (parts rule posed request.phase request.depth))

-- the outcome for a sound problem
abbrev pub outcome_in : RuleSet → PartRequest → Posed → Outcome
outcome_in rule request posed = if not (has_phase posed request.phase) then NoPhase
    else (if has_parts rule request posed then Shown else NoPart)

-- the text for a sound problem: its requested parts, if it has them
unfoldable pub text_in : RuleSet → PartRequest → Posed → List ℕ
text_in rule request posed = if has_phase posed request.phase && has_parts rule request posed
    then flat_map (part_text rule posed request.phase) (parts_requested rule request posed) else []

-- the outcome for an item; without an item, it depends on whether the input's device failed
abbrev pub outcome_at : PartRequest → Bool → Option Entry → Outcome
outcome_at request failed None = if failed then InputFailed else NoItem
outcome_at request failed (Some (Sound posed)) = outcome_in (rule_of posed.condition) request posed
outcome_at request failed (Some (Faulty fault)) =
    if reports_device_failure (Faulty fault) then InputFailed else FaultyItem

-- the text for an item
abbrev pub text_at : PartRequest → Option Entry → List ℕ
text_at request None = []
text_at request (Some (Sound posed)) = text_in (rule_of posed.condition) request posed
text_at request (Some (Faulty fault)) = []

-- the outcome for an input
abbrev pub outcome_of : PartRequest → Input → Outcome
outcome_of request input = outcome_at request (list_any reports_device_failure (entries_in input))
    (entry_numbered (entries_in input) request.item)

-- the text for an input: the requested parts, or nothing if it doesn't have them
abbrev pub text_of : PartRequest → Input → List ℕ
text_of request input = text_at request (entry_numbered (entries_in input) request.item)
