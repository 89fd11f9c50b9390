-- What is kept with the men on the squares, so that no search for them is needed (own).
use Rattle.std.specs.Prelude.{◌≡◌, ℕ, List, [], ◌∷◌, Option, map}
use Rattle.chess_core.specs.Diagrams.{is_kind}
use Rattle.chess_core.specs.Position.{is_of_colour, king_square, kinds}
use Rattle.chess_core.specs.ties.Words.{word_of}
use Rattle.chess_core.specs.declared.man.Man.{Man}
use Rattle.chess_core.specs.declared.man.Colour.{Colour}
use Rattle.chess_core.specs.declared.man.Colour.TheVariants.{White, Black}

-- the place of a colour in the order of colours
abbrev pub colour_number : Colour → ℕ
colour_number White = 0
colour_number Black = 1

-- the colours in order
abbrev pub colours : List Colour
colours = White ∷ Black ∷ []

-- for each kind the squares of its men
unfoldable pub kind_bitboards : List (Option Man) → List ℕ
kind_bitboards men = map (λ k. word_of (λ x. is_kind x k) men) kinds

-- for each colour the squares of its men
unfoldable pub side_bitboards : List (Option Man) → List ℕ
side_bitboards men = map (λ c. word_of (λ x. is_of_colour x c) men) colours

-- for each colour the square of its king, if it has one
unfoldable pub king_squares : List (Option Man) → List (Option ℕ)
king_squares men = map (king_square men) colours

-- the bitboards agree with the men on the squares
pub record Agrees (men : List (Option Man)) (by_kind by_side : List ℕ) : Type 0 where
  pub kinds_are : by_kind ≡ kind_bitboards men
  pub sides_are : by_side ≡ side_bitboards men
