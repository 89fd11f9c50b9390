-- The text of a line, byte by byte (own).
use Rattle.std.specs.Prelude.{◌≡◌, ◌≤◌, ◌-◌, take, replicate, ℕ, List, [], ◌∷◌, ◌++◌, length, nat_lt, if◌then◌else◌}
use Rattle.pop_text.specs.Words.{is_blank, longest_text}

-- the bytes kept after one more byte, if there is room for `room` bytes
abbrev pub with_byte : ℕ → List ℕ → ℕ → List ℕ
with_byte room [] byte = if is_blank byte then [] else byte ∷ []
with_byte room (b ∷ kept) byte = if nat_lt (length (b ∷ kept)) room then (b ∷ kept) ++ byte ∷ []
    else b ∷ kept

-- the cells of a text: its bytes, and zeros after them
abbrev pub padded_cells : List ℕ → List ℕ
padded_cells bytes = bytes ++ replicate (longest_text - length bytes) 0

-- the first `size` cells are the bytes of a text, and zeros follow them
pub record IsPadded (cells : List ℕ) (size : ℕ) : Type 0 where
  pub within : size ≤ longest_text
  pub cells_are : padded_cells (take size cells) ≡ cells
  pub size_is : length (take size cells) ≡ size
