-- The next byte, and the runs of words (own).
use Rattle.std.specs.Prelude.{◌≡◌, ◌<◌, ◌≤◌, ℕ, ◌+◌, List, [], ◌∷◌, ◌++◌, length, count_by, Option, Some, None, Result, Ok, Err, Bool, true, false, ◌⊎◌}
use Rattle.std.specs.List.{list_all}
use Rattle.pop_text.specs.ties.Reading.{Reading, Uses, UsesAll}
use Rattle.pop_text.specs.Words.{is_line_end, is_gap, is_in_line, is_in_word, limit, text_of_line, longest_word}
use Rattle.pop_text.specs.declared.scanner.End.TheVariants.{Ended, Broken}
use Rattle.pop_text.specs.declared.read_fault.ReadFault.{ReadFault}
use Rattle.pop_text.specs.declared.read_fault.ReadFault.TheVariants.{TooLong, InputTooLong, Device}
use Rattle.pop_text.specs.declared.text.Text.{Text}
use Rattle.pop_text.specs.declared.word.Word.{Word}

-- what comes next: a byte, the end of the input, or a fault
abbrev pub ComesNext : Reading → Result (Option ℕ) ReadFault → Type 0
ComesNext new (Ok (Some b)) = (rest : List ℕ) × (new.window ≡ b ∷ rest) × (new.used < limit)
ComesNext new (Ok None) = (new.window ≡ []) × (new.end ≡ Ended) × (new.used ≤ limit)
ComesNext new (Err (InputTooLong line)) = (0 < length new.window) × (new.used ≡ limit)
    × (line ≡ new.line)
ComesNext new (Err (TooLong line)) = ⊥
ComesNext new (Err (Device line)) = (new.window ≡ []) × (new.end ≡ Broken) × (line ≡ new.line)
    × (new.used ≤ limit)

-- a fault that every later call finds again; a word that is too long isn't one, since it is used
abbrev pub Sticks : Reading → ReadFault → Type 0
Sticks new (TooLong line) = Unit {0}
Sticks new (InputTooLong line) = ComesNext new (Err (InputTooLong line))
Sticks new (Device line) = ComesNext new (Err (Device line))

-- if a fault comes next, the call returns it and changes nothing
abbrev pub FailsAgain : {A : Type 0} → Reading → Reading → Result A ReadFault → Type 0
FailsAgain old new result = (fault : ReadFault) → ComesNext old (Err fault)
    → (result ≡ Err fault) × (new ≡ old)

-- a run is over: a gap follows it, or nothing does
abbrev pub IsRunOver : Reading → Type 0
IsRunOver new = ((b : ℕ) × (rest : List ℕ) × (new.window ≡ b ∷ rest) × (is_gap b ≡ true)
    × (new.used < limit)) ⊎ ((new.window ≡ []) × (new.end ≡ Ended) × (new.used ≤ limit))

-- these bytes of a run are used
pub record UsesSolid (old new : Reading) (had left : Option (List ℕ)) (run : List ℕ) : Type 0 where
  pub solid : list_all is_in_word run ≡ true
  pub uses : Uses old new had left run

-- a whole run is used, which the word keeps or which is too long for it; or a beginning of a run, up to a fault
abbrev pub RunsTo : Reading → Reading → Option (List ℕ) → Option (List ℕ) → List ℕ
    → Result Bool ReadFault → Type 0
RunsTo old new had left kept (Ok true) = UsesSolid old new had left kept × IsRunOver new
RunsTo old new had left kept (Ok false) = (run : List ℕ) × (longest_word < length run)
    × UsesSolid old new had left run × IsRunOver new
RunsTo old new had left kept (Err fault) = (run : List ℕ) × UsesSolid old new had left run
    × ComesNext new (Err fault)

-- a gap and the run after it are used, and no byte after the run; the run begins in the line with this number
pub record UsesRun (old new : Reading) (had left : Option (List ℕ)) (number : ℕ)
    (run : List ℕ) : Type 0 where
  pub gap : List ℕ
  pub blank : list_all is_gap gap ≡ true
  pub solid : list_all is_in_word run ≡ true
  pub uses : Uses old new had left (gap ++ run)
  pub line : number ≡ old.line + count_by is_line_end gap

-- which bytes `next_word` uses: a gap and the word; without a word the gap up to the end of the input, or a gap and the
-- beginning of a run that a fault cuts
abbrev pub UsesWord : Reading → Reading → Option (List ℕ) → Option (List ℕ)
    → Result (Option Word) ReadFault → Type 0
UsesWord old new had left (Ok None) = UsesAll is_gap old new had left × ComesNext new (Ok None)
UsesWord old new had left (Ok (Some word)) = UsesRun old new had left word.line word.bytes.items
    × IsRunOver new
UsesWord old new had left (Err (TooLong line)) = (run : List ℕ) × (longest_word < length run)
    × UsesRun old new had left line run × IsRunOver new
UsesWord old new had left (Err (InputTooLong line)) = (run : List ℕ)
    × UsesRun old new had left line run
UsesWord old new had left (Err (Device line)) = (run : List ℕ) × UsesRun old new had left line run

-- what holds of the state after `next_word`, by its result
abbrev pub HoldsAfterWord : Reading → Result (Option Word) ReadFault → Type 0
HoldsAfterWord new (Ok None) = ComesNext new (Ok None)
HoldsAfterWord new (Ok (Some word)) = 0 < length word.bytes.items
HoldsAfterWord new (Err fault) = Sticks new fault

-- a line and its line end are used, or a line that ends with the input
abbrev pub UsesWhole : Reading → Reading → Option (List ℕ) → Option (List ℕ) → List ℕ → Type 0
UsesWhole old new had left line = Uses old new had left (line ++ 10 ∷ [])
    ⊎ (Uses old new had left line × (new.window ≡ []) × (new.end ≡ Ended))

-- which bytes `rest_of_line` uses: the whole line, whose text it returns, or some bytes of the line up to a fault
abbrev pub UsesLine : Reading → Reading → Option (List ℕ) → Option (List ℕ) → Result Text ReadFault
    → Type 0
UsesLine old new had left (Ok text) = (line : List ℕ) × (list_all is_in_line line ≡ true)
    × (text ≡ text_of_line line) × UsesWhole old new had left line
UsesLine old new had left (Err fault) = UsesAll is_in_line old new had left
