-- Items as entries (own).
use Rattle.std.specs.Prelude.{ℕ, List, [], Bool, false, Option, Some, None}
use Rattle.pop_input.specs.Blocks.{Entry, Sound as SoundEntry, Faulty as FaultyEntry}
use Rattle.pop_input.specs.declared.item.Item.{Item}
use Rattle.pop_input.specs.declared.item.Item.TheVariants.{Sound, Faulty, End}
use Rattle.chess_attacks.specs.RuleSet.{RuleSet}
use Rattle.pop_input.specs.Posed.{Posed}
use Rattle.pop_walk.specs.Events.{Path}
use Rattle.pop_events.specs.declared.event.Phase.{Phase}
use Rattle.pop_run.specs.Report.{reports_device_failure}
use Rattle.pop_parts.specs.Parts.{part_text}

-- the entry of an item; none after the last
abbrev pub entry_in : Item → Option Entry
entry_in (Sound posed last) = Some (SoundEntry posed)
entry_in (Faulty fault last) = Some (FaultyEntry fault)
entry_in End = None

-- the entry reports a failed device
abbrev pub is_failure : Option Entry → Bool
is_failure None = false
is_failure (Some entry) = reports_device_failure entry

-- the text of a part, if there is one
abbrev pub text_if : RuleSet → Posed → Phase → Option Path → List ℕ
text_if rule posed phase None = []
text_if rule posed phase (Some beginning) = part_text rule posed phase beginning
