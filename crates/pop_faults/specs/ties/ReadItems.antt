-- What the code writes of an item, and the status after it (own).
use Rattle.std.specs.Prelude.{ℕ, List, [], true}
use Rattle.pop_input.specs.FaultKinds.{is_device_failure}
use Rattle.pop_input.specs.declared.item.Item.{Item}
use Rattle.pop_input.specs.declared.item.Item.TheVariants.{Sound, Faulty, End}
use Rattle.pop_input.specs.declared.span.Span.{Span}
use Rattle.pop_run.specs.declared.status.Status.{Status}
use Rattle.pop_run.specs.ties.Sessions.{status_with}
use Rattle.pop_faults.specs.FaultList.{fault_line}

-- what is written of an item that is found at this span
abbrev pub item_text : ℕ → Item → Span → List ℕ
item_text number (Sound posed last) span = []
item_text number (Faulty fault last) span = fault_line number fault span
item_text number End span = []

-- the status after an item
abbrev pub status_after : Status → Item → Status
status_after so_far (Sound posed last) = so_far
status_after so_far (Faulty fault last) = status_with so_far (is_device_failure fault.kind) true
status_after so_far End = so_far
