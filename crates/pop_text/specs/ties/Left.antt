-- The words still to come, and which of them a call of the scanner takes (own).
use Rattle.std.specs.Prelude.{◌≡◌, ◌<◌, ◌≤◌, ℕ, ◌+◌, ◌-◌, List, [], ◌∷◌, ◌++◌, length, Option, None, Some, Result, Ok, Err, Bool, true, false}
use Rattle.pop_text.specs.Bytes.{Consumes}
use Rattle.pop_text.specs.Words.{Input, Clean, Failed, Words, Token, Word, TextLine, Tail, End as AtEnd, Long, Broken as Failing, limit, words_from, is_text_word, text_of_line, longest_word}
use Rattle.pop_text.specs.ties.Reading.{Reading}
use Rattle.pop_text.specs.declared.scanner.End.{End}
use Rattle.pop_text.specs.declared.scanner.End.TheVariants.{Open, Ended, Broken}
use Rattle.pop_text.specs.declared.scanner.Found.{Found}
use Rattle.pop_text.specs.declared.scanner.Found.TheVariants.{Word as AWord, Nothing}
use Rattle.pop_text.specs.declared.read_fault.ReadFault.{ReadFault}
use Rattle.pop_text.specs.declared.read_fault.ReadFault.TheVariants.{TooLong, InputTooLong, Device}
use Rattle.pop_text.specs.declared.word.Word.{Word as Read}
use Rattle.pop_text.specs.declared.text.Text.{Text}

-- an input of these bytes followed by a rest
abbrev pub onto_input : List ℕ → Input → Input
onto_input bytes rest = record { bytes = bytes ++ rest.bytes; ending = rest.ending }

-- what may still come from the source
abbrev pub MayFollow : End → Input → Type 0
MayFollow Open rest = Unit {0}
MayFollow Ended rest = rest ≡ record { bytes = []; ending = Clean }
MayFollow Broken rest = rest ≡ record { bytes = []; ending = Failed }

-- the words still to come, after a text word of the line or after none, if the source continues with this rest
abbrev pub words_left : Option (List ℕ) → Reading → Input → Words
words_left following place rest = words_from following (limit - place.used) place.line
    (onto_input place.window rest)

-- these tokens put before words
abbrev pub put_before : List Token → Words → Words
put_before tokens words = record {
  tokens = tokens ++ words.tokens;
  tail = words.tail;
  tail_line = words.tail_line;
}

-- the state of a scanner, and the text word that it has just read, if any
pub record ScannerSpot : Type 0 where
  pub following : Option (List ℕ)
  pub at : Reading

-- From old to new these tokens are taken: some bytes are taken from the source, and however it continues, these tokens
-- are the first of the words still to come.
pub record Takes (old new : ScannerSpot) (had left : Option (List ℕ)) (tokens : List Token) : Type 0 where
  pub bytes : List ℕ
  pub taken : Consumes had left bytes
  pub follows : (rest : Input) → MayFollow new.at.end rest
      → MayFollow old.at.end (onto_input bytes rest)
  pub begin : (rest : Input) → MayFollow new.at.end rest
      → words_left old.following old.at (onto_input bytes rest)
      ≡ put_before tokens (words_left new.following new.at rest)
  pub amount : length bytes + (old.at.used + length old.at.window)
      ≡ new.at.used + length new.at.window

-- a scanner that has read no text word
abbrev pub among : Reading → ScannerSpot
among place = record { following = None; at = place }

-- a scanner that has just read this text word
abbrev pub after_word : List ℕ → Reading → ScannerSpot
after_word keyword place = record { following = Some keyword; at = place }

-- no words, with this tail and the line of the end
abbrev pub no_words : Tail → ℕ → Words
no_words tail line = record { tokens = []; tail = tail; tail_line = line }

-- the input ends here in this way, however the source continues
abbrev pub IsOver : Reading → Tail → Type 0
IsOver place tail = (rest : Input) → MayFollow place.end rest
    → words_left None place rest ≡ no_words tail place.line

-- a word is taken; if it is a text word, its text line isn't taken yet
abbrev pub TakesWord : Bool → Reading → Reading → Option (List ℕ) → Option (List ℕ) → ℕ → List ℕ
    → Type 0
TakesWord true old new had left line text = Takes (among old) (after_word text new) had left []
TakesWord false old new had left line text = Takes (among old) (among new) had left
    (Word line text ∷ [])

-- no byte is put back, and the limit holds
abbrev pub WithinLimit : Reading → Reading → Type 0
WithinLimit old new = (old.used ≤ new.used) × (new.used ≤ limit)

-- no word is taken, and none is left
abbrev pub TakesNone : ScannerSpot → Reading → Option (List ℕ) → Option (List ℕ) → ReadFault → Type 0
TakesNone old new had left (TooLong line) = ⊥
TakesNone old new had left (InputTooLong line) = Takes old (among new) had left [] × IsOver new Long
    × (line ≡ new.line) × WithinLimit old.at new
TakesNone old new had left (Device line) = Takes old (among new) had left [] × IsOver new Failing
    × (line ≡ new.line) × WithinLimit old.at new × (new.end ≡ Broken)

-- bytes are used, and the limit holds
abbrev pub Advances : Reading → Reading → Type 0
Advances old new = (old.used < new.used) × (new.used ≤ limit)

-- the result of `next_word`, by the word that `read_word` stored and its result
abbrev pub found_by : Read → Result Found ReadFault → Result (Option Read) ReadFault
found_by word (Ok AWord) = Ok (Some word)
found_by word (Ok Nothing) = Ok None
found_by word (Err fault) = Err fault

-- the result of `read_word`, by the outcome of a run that begins in the line with this number
abbrev pub found_of : Result Bool ReadFault → ℕ → Result Found ReadFault
found_of (Ok true) line = Ok AWord
found_of (Ok false) line = Err (TooLong line)
found_of (Err fault) line = Err fault

-- what `next_word` does
abbrev pub NextWord : Reading → Reading → Option (List ℕ) → Option (List ℕ)
    → Result (Option Read) ReadFault → Type 0
NextWord old new had left (Ok None) = Takes (among old) (among new) had left [] × IsOver new AtEnd
    × WithinLimit old new
NextWord old new had left (Ok (Some word)) = TakesWord (is_text_word word.bytes.items) old new had
    left word.line word.bytes.items × (0 < length word.bytes.items) × Advances old new
NextWord old new had left (Err (TooLong line)) = (text : List ℕ) × (longest_word < length text)
    × Takes (among old) (among new) had left (Word line text ∷ []) × Advances old new
NextWord old new had left (Err (InputTooLong line)) = TakesNone (among old) new had left
    (InputTooLong line)
NextWord old new had left (Err (Device line)) = TakesNone (among old) new had left (Device line)

-- what `rest_of_line` does after a text word
abbrev pub RestOfLine : List ℕ → Reading → Reading → Option (List ℕ) → Option (List ℕ)
    → Result Text ReadFault → Type 0
RestOfLine keyword old new had left (Ok text) = (line : List ℕ)
    × Takes (after_word keyword old) (among new) had left (TextLine old.line keyword line ∷ [])
    × (text ≡ text_of_line line) × (old.used ≤ new.used) × (new.used ≤ limit)
RestOfLine keyword old new had left (Err fault) = TakesNone (after_word keyword old) new had left
    fault
