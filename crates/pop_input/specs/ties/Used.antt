-- Which bytes an item uses (own).
use Rattle.std.specs.Prelude.{◌≡◌, ℕ, List, [], ◌∷◌, ◌++◌, Option, Some, None, Ok, Err, true, ◌⊎◌}
use Rattle.std.specs.List.{list_all}
use Rattle.pop_text.specs.Words.{Token, Word, is_in_word}
use Rattle.pop_text.specs.ties.Reading.{Reading, Uses}
use Rattle.pop_text.specs.ties.Left.{Takes, among}
use Rattle.pop_text.specs.ties.Runs.{IsRunOver, ComesNext}
use Rattle.pop_text.specs.declared.read_fault.ReadFault.{ReadFault}
use Rattle.pop_input.specs.Blocks.{Entry, Sound as SoundEntry, Faulty as FaultyEntry, closes_none}
use Rattle.pop_input.specs.Names.{command_of}
use Rattle.pop_input.specs.ties.Closings.{last_of}
use Rattle.pop_input.specs.ties.ReaderState.{ReaderState, next_after}
use Rattle.pop_input.specs.declared.item.Item.{Item}
use Rattle.pop_input.specs.declared.item.Item.TheVariants.{Sound, Faulty, End}
use Rattle.pop_input.specs.declared.item.Last.{Last}

-- Between old and new these bytes are used, and these tokens taken.
pub record UsesTokens (old new : Reading) (had left : Option (List ℕ)) (bytes : List ℕ)
    (tokens : List Token) : Type 0 where
  pub uses : Uses old new had left bytes
  pub takes : Takes (among old) (among new) had left tokens

-- A word closes the item, the first word that can: exactly the bytes up to its end are used.
pub record IsClosed (old new : ReaderState) (had left : Option (List ℕ)) : Type 0 where
  pub front : List Token
  pub plain : list_all closes_none front ≡ true
  pub line : ℕ
  pub word : List ℕ
  pub last : Last
  pub closes : last_of (command_of word) ≡ Some last
  pub next : new.next ≡ next_after last
  pub before : List ℕ
  pub solid : list_all is_in_word word ≡ true
  pub used : UsesTokens old.at new.at had left (before ++ word) (front ++ Word line word ∷ [])
  pub over : IsRunOver new.at

-- the input ends here, or is cut here
abbrev pub IsInputOver : Reading → Type 0
IsInputOver context = ComesNext context (Ok None) ⊎ ((fault : ReadFault)
    × ComesNext context (Err fault))

-- No word closes the item: all bytes up to the end of the input are used, or up to where it is cut.
pub record IsUnclosed (old new : ReaderState) (had left : Option (List ℕ)) : Type 0 where
  pub tokens : List Token
  pub plain : list_all closes_none tokens ≡ true
  pub bytes : List ℕ
  pub used : UsesTokens old.at new.at had left bytes tokens
  pub over : IsInputOver new.at

-- which bytes an item uses: a word closes each sound problem
abbrev pub UsesEntry : ReaderState → ReaderState → Option (List ℕ) → Option (List ℕ) → Entry
    → Type 0
UsesEntry old new had left (SoundEntry posed) = IsClosed old new had left
UsesEntry old new had left (FaultyEntry fault) = IsClosed old new had left
    ⊎ IsUnclosed old new had left

-- which bytes `next_problem` uses: none after the last item
abbrev pub UsesItem : ReaderState → ReaderState → Option (List ℕ) → Option (List ℕ) → Item → Type 0
UsesItem old new had left (Sound problem last) = UsesEntry old new had left (SoundEntry problem)
UsesItem old new had left (Faulty fault last) = UsesEntry old new had left (FaultyEntry fault)
UsesItem old new had left End = (new ≡ old) × (left ≡ had)
