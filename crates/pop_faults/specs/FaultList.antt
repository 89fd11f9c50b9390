-- The list of an input's faults (own layout).
use Rattle.std.specs.Prelude.{ℕ, ◌+◌, List, [], ◌∷◌, ◌++◌, codes, decimal}
use Rattle.pop_input.specs.Blocks.{Entry, Sound, Faulty}
use Rattle.pop_input.specs.FaultKinds.{number_of}
use Rattle.pop_input.specs.declared.item.Fault.{Fault}
use Rattle.pop_input.specs.declared.span.Span.{Span}

-- an item of an input, and its span
pub record Located : Type 0 where
  pub entry : Entry
  pub span : Span

-- the line of a faulty item: its number, the fault with its line, and its span, whose end isn't part of it
unfoldable pub fault_line : ℕ → Fault → Span → List ℕ
fault_line number fault span = decimal number ++ codes ": fault "
    ++ decimal (number_of fault.kind) ++ codes ", line " ++ decimal fault.line
    ++ codes ", bytes " ++ decimal span.start ++ codes " up to " ++ decimal span.end
    ++ codes "\n"

-- the text of an item: nothing if it is sound
abbrev pub entry_line : ℕ → Entry → Span → List ℕ
entry_line number (Sound posed) span = []
entry_line number (Faulty fault) span = fault_line number fault span

-- the list of items, the first with this number
abbrev pub faults_from : ℕ → List Located → List ℕ
faults_from number [] = []
faults_from number (item ∷ items) = entry_line number item.entry item.span
    ++ faults_from (number + 1) items

-- the items without their spans
abbrev pub entries_of : List Located → List Entry
entries_of [] = []
entries_of (item ∷ items) = item.entry ∷ entries_of items
