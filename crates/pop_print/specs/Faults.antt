-- The text of faults (own).
use Rattle.std.specs.Prelude.{ℕ, List, ◌++◌, codes}
use Rattle.pop_print.specs.Heads.{item_line}
use Rattle.pop_input.specs.FaultKinds.{fault_line}
use Rattle.pop_input.specs.declared.item.Fault.{Fault}

-- the text of a faulty item: its number, the fault with its line, an empty line
unfoldable pub fault_text : ℕ → Fault → List ℕ
fault_text number fault = item_line number ++ fault_line fault ++ codes "\n\n"
