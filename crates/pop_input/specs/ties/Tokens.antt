-- What `next_token` does (own).
use Rattle.std.specs.Prelude.{◌≡◌, ◌<◌, ◌≤◌, ◌+◌, ℕ, List, [], ◌∷◌, length, Option, Some, None, Result, Ok, Err, IfOk, IfSome, false}
use Rattle.pop_text.specs.Words.{Token, Word, TextLine, Tail, End as AtEnd, Long, Broken as Failing, is_gap, text_of_line, longest_word}
use Rattle.pop_text.specs.ties.Reading.{Reading, Uses}
use Rattle.pop_text.specs.ties.Runs.{IsRunOver, ComesNext, UsesRun}
use Rattle.pop_text.specs.ties.Left.{Takes, among, IsOver, Advances, WithinLimit}
use Rattle.pop_text.specs.declared.read_fault.ReadFault.{ReadFault}
use Rattle.pop_text.specs.declared.scanner.End.TheVariants.{Broken}
use Rattle.pop_text.specs.declared.read_fault.ReadFault.TheVariants.{TooLong as LongWord, InputTooLong, Device}
use Rattle.pop_input.specs.Names.{text_word_of}
use Rattle.pop_text.specs.declared.word.Word.{Word as Room}
use Rattle.pop_input.specs.ties.Spans.{span_from}
use Rattle.pop_input.specs.declared.span.Span.{Span}
use Rattle.pop_input.specs.declared.token.ReadToken.{ReadToken}
use Rattle.pop_input.specs.declared.token.ReadToken.TheVariants.{Word as AWord, TooLong, Line, Ended, Cut}

-- no gap comes next: a byte of a token, the end of the input, or a fault
pub record IsGapOver (new : Reading) : Type 0 where
  pub next : Result (Option ℕ) ReadFault
  pub comes : ComesNext new next
  pub other : IfOk next (λ o. IfSome o (λ b. is_gap b ≡ false))

-- the call takes this token of the input
abbrev pub TakesPart : Reading → Reading → Option (List ℕ) → Option (List ℕ) → Token → Type 0
TakesPart old new had left part = Takes (among old) (among new) had left (part ∷ [])
    × Advances old new

-- the call takes no token: none is left
abbrev pub TakesNothing : Reading → Reading → Option (List ℕ) → Option (List ℕ) → Tail → ℕ → Type 0
TakesNothing old new had left tail line = Takes (among old) (among new) had left []
    × IsOver new tail × (line ≡ new.line) × WithinLimit old new

-- the call takes no token: the input is cut
abbrev pub CutsOff : Reading → Reading → Option (List ℕ) → Option (List ℕ) → ReadFault → Type 0
CutsOff old new had left (LongWord line) = ⊥
CutsOff old new had left (InputTooLong line) = TakesNothing old new had left Long line
CutsOff old new had left (Device line) = TakesNothing old new had left Failing line
    × (new.end ≡ Broken)

-- the call uses some bytes
pub record UsesSome (old new : Reading) (had left : Option (List ℕ)) : Type 0 where
  pub bytes : List ℕ
  pub uses : Uses old new had left bytes

-- which bytes `next_token` uses: for a word of any length exactly those up to its end; if the input ends or is cut, all
-- up to there
abbrev pub UsesToken : Reading → Reading → Option (List ℕ) → Option (List ℕ) → Room → ReadToken
    → Type 0
UsesToken old new had left word AWord = UsesRun old new had left word.line word.bytes.items
    × IsRunOver new
UsesToken old new had left word (TooLong line) = (run : List ℕ) × (longest_word < length run)
    × UsesRun old new had left line run × IsRunOver new
UsesToken old new had left word (Line keyword) = UsesSome old new had left
UsesToken old new had left word (Ended line) = UsesSome old new had left × ComesNext new (Ok None)
UsesToken old new had left word (Cut fault) = UsesSome old new had left × ComesNext new (Err fault)

-- the span of a token: for a word the range from `start` to `end`, else the empty range at `end`
abbrev pub range_of : ReadToken → ℕ → ℕ → Span
range_of AWord start end = span_from start end
range_of (TooLong line) start end = span_from start end
range_of _ start end = span_from end end

-- a gap and a run after it are used, and the span is the range of the run
pub record UsesRunAt (old new : Reading) (had left : Option (List ℕ)) (number : ℕ) (run : List ℕ)
    (span : Span) : Type 0 where
  pub uses : UsesRun old new had left number run
  pub start : span.start ≡ old.used + length uses.gap
  pub end : span.end ≡ new.used

-- the span that `next_token` stores: of a word, however long, else after the token
abbrev pub IsSpanOf : Reading → Reading → Option (List ℕ) → Option (List ℕ) → Room → Span
    → ReadToken
    → Type 0
IsSpanOf old new had left word span AWord = UsesRunAt old new had left word.line word.bytes.items
    span
IsSpanOf old new had left word span (TooLong line) = (run : List ℕ) × (longest_word < length run)
    × UsesRunAt old new had left line run span × IsRunOver new
IsSpanOf old new had left word span (Line keyword) = Unit {0}
IsSpanOf old new had left word span (Ended line) = span ≡ span_from new.used new.used
IsSpanOf old new had left word span (Cut fault) = span ≡ span_from new.used new.used

-- what `next_token` does, with the word and the text that it stores
abbrev pub NextToken : Reading → Reading → Option (List ℕ) → Option (List ℕ) → Room → List ℕ
    → ReadToken
    → Type 0
NextToken old new had left word text AWord = TakesPart old new had left
    (Word word.line word.bytes.items) × (length word.bytes.items ≤ longest_word)
NextToken old new had left word text (TooLong line) = (long : List ℕ)
    × TakesPart old new had left (Word line long) × (longest_word < length long)
NextToken old new had left word text (Line keyword) = (line : ℕ) × (name : List ℕ) × (rest : List ℕ)
    × TakesPart old new had left (TextLine line name rest) × (text_word_of name ≡ Some keyword)
    × (text ≡ text_of_line rest)
NextToken old new had left word text (Ended line) = TakesNothing old new had left AtEnd line
NextToken old new had left word text (Cut fault) = CutsOff old new had left fault
