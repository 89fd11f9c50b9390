-- Laws of the definitions (own).
use Rattle.std.specs.Prelude.{◌≡◌, ◌⊎◌, ℕ, ◌+◌, List, Bool, true, Option, Some, is_some, option_map, slice_get}
use Rattle.pop_text.specs.Words.{Input, Token, words_of}
use Rattle.pop_input.specs.Blocks.{blocks_of, closing_line}
use Rattle.pop_run.specs.Report.{Choice, entries_in, entry_text}

-- the block at an index of an input, counted from 0: its words and text lines, each with the number of its line
abbrev pub block_at : Input → ℕ → Option (List Token)
block_at input index = slice_get (blocks_of (words_of input).tokens) index

-- the text of the item at an index, counted from 0: the report of the input is these texts joined
abbrev pub text_at : Choice → Input → ℕ → Option (List ℕ)
text_at choice input index = option_map (λ entry. entry_text choice (index + 1) entry)
    (slice_get (entries_in input) index)

-- whether NextProblem or EndProblem closes the block
abbrev pub is_closed : List Token → Bool
is_closed block = is_some (closing_line block)

-- two inputs end alike: both cleanly, both too long or both with a failed source, and after the same number of line
-- ends
pub record EndAlike (input other : Input) : Type 0 where
  pub tail : (words_of input).tail ≡ (words_of other).tail
  pub line : (words_of input).tail_line ≡ (words_of other).tail_line

-- both inputs have an item at this index, with the same text
pub record HaveSameText (choice : Choice) (input other : Input) (index : ℕ) : Type 0 where
  pub text : List ℕ
  pub here : text_at choice input index ≡ Some text
  pub there : text_at choice other index ≡ Some text

-- No neighbour changes an item's text: two inputs that have the same block at the same index have the same text there,
-- whatever the blocks before and after. If no word closes the block, the inputs also have to end alike.
abbrev pub NoNeighbourChangesAText : Type 0
NoNeighbourChangesAText = (choice : Choice) (input other : Input) (index : ℕ) (block : List Token)
    → block_at input index ≡ Some block → block_at other index ≡ Some block
    → (is_closed block ≡ true) ⊎ EndAlike input other → HaveSameText choice input other index
