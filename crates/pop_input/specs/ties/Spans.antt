-- Where a fault is found (own): at the first faulty word of its problem, else at the word that closes the problem, else
-- where the input ends or is cut.
use Rattle.std.specs.Prelude.{◌≡◌, ℕ, ◌+◌, List, [], ◌∷◌, ◌++◌, length, Option, Some, None, Bool, true, false, ◌⊎◌}
use Rattle.std.specs.List.{list_all}
use Rattle.pop_text.specs.Words.{Token, Word, is_in_word}
use Rattle.pop_text.specs.ties.Reading.{Reading}
use Rattle.pop_text.specs.ties.Runs.{IsRunOver}
use Rattle.pop_input.specs.Blocks.{block_fault, closes_none}
use Rattle.pop_input.specs.Names.{command_of, closes}
use Rattle.pop_input.specs.ties.ReaderState.{ReaderState}
use Rattle.pop_input.specs.ties.Used.{UsesTokens, IsInputOver}
use Rattle.pop_input.specs.declared.item.Fault.{Fault}
use Rattle.pop_input.specs.declared.item.Item.{Item}
use Rattle.pop_input.specs.declared.item.Item.TheVariants.{Sound, Faulty, End}
use Rattle.pop_input.specs.declared.span.Span.{Span}
use Rattle.pop_input.specs.declared.reader.Next.{Next}
use Rattle.pop_input.specs.declared.reader.Next.TheVariants.{First, Later, Nothing}

-- the bytes from `start` up to `end`
abbrev pub span_from : ℕ → ℕ → Span
span_from start end = record { start = start; end = end }

-- the first span if there is a fault already, else the second
abbrev pub span_by : Option Fault → Span → Span → Span
span_by (Some fault) old new = old
span_by None old new = new

-- whether the first block is next
abbrev pub is_first : Next → Bool
is_first First = true
is_first Later = false
is_first Nothing = false

-- From old to new exactly the bytes up to the end of this word are used. These tokens come before it in its block, and
-- the span is the range of the word's bytes.
pub record EndsWord (old new : Reading) (had left : Option (List ℕ)) (front : List Token) (line : ℕ)
    (word : List ℕ) (span : Span) : Type 0 where
  pub plain : list_all closes_none front ≡ true
  pub before : List ℕ
  pub solid : list_all is_in_word word ≡ true
  pub used : UsesTokens old new had left (before ++ word) (front ++ Word line word ∷ [])
  pub over : IsRunOver new
  pub start : span.start ≡ old.used + length before
  pub end : span.end ≡ old.used + length (before ++ word)

-- The span of the first word of the block that has a fault: no word before it has one.
pub record IsFaultyWord (first : Bool) (old : Reading) (had : Option (List ℕ)) (fault : Fault)
    (span : Span) : Type 0 where
  pub front : List Token
  pub line : ℕ
  pub word : List ℕ
  pub sound : block_fault first front ≡ None
  pub faulty : block_fault first (front ++ Word line word ∷ []) ≡ Some fault
  pub new : Reading
  pub left : Option (List ℕ)
  pub ends : EndsWord old new had left front line word span

-- The span of the word that closes the block: no word up to it has a fault.
pub record IsClosingWord (first : Bool) (old new : Reading) (had left : Option (List ℕ))
    (span : Span) : Type 0 where
  pub front : List Token
  pub line : ℕ
  pub word : List ℕ
  pub sound : block_fault first (front ++ Word line word ∷ []) ≡ None
  pub closes : closes (command_of word) ≡ true
  pub ends : EndsWord old new had left front line word span

-- The span where the input ends or is cut in the block: no word up to there has a fault.
pub record IsWhereCut (first : Bool) (old new : Reading) (had left : Option (List ℕ))
    (span : Span) : Type 0 where
  pub tokens : List Token
  pub plain : list_all closes_none tokens ≡ true
  pub sound : block_fault first tokens ≡ None
  pub bytes : List ℕ
  pub used : UsesTokens old new had left bytes tokens
  pub over : IsInputOver new
  pub start : span.start ≡ old.used + length bytes
  pub end : span.end ≡ old.used + length bytes

-- the span of a fault that isn't a word's
abbrev pub IsAtEnd : Bool → Reading → Reading → Option (List ℕ) → Option (List ℕ) → Span → Type 0
IsAtEnd first old new had left span = IsClosingWord first old new had left span
    ⊎ IsWhereCut first old new had left span

-- which span an item has: a sound problem that of the word that closes it
abbrev pub HasSpan : ReaderState → ReaderState → Option (List ℕ) → Option (List ℕ) → Item → Span
    → Type 0
HasSpan old new had left (Sound problem last) span = IsClosingWord (is_first old.next) old.at
    new.at had left span
HasSpan old new had left (Faulty fault last) span = IsFaultyWord (is_first old.next) old.at had
    fault span ⊎ IsAtEnd (is_first old.next) old.at new.at had left span
HasSpan old new had left End span = Unit {0}
