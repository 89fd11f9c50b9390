-- Diagrams in FEN: its first four fields, with which EPD begins too (PGN Standard, sections 16.1 and 16.2).
use Rattle.std.specs.Prelude.{ℕ, ◌+◌, ◌-◌, ◌*◌, ◌<◌, ◌≡◌, nat_le, Bool, ◌&&◌, ◌||◌, if◌then◌else◌, List, [], ◌∷◌, ◌++◌, length, map, Option, Some, None, IfSome, Result, MatchResult}
use Rattle.std.specs.List.{join_with_byte, range_with_len}
use Rattle.chess_core.specs.Castling.{Unmoved}
use Rattle.chess_core.specs.Diagrams.{Diagram}
use Rattle.chess_core.specs.Letters.{capital_letter, king_letter, queen_letter}
use Rattle.chess_core.specs.Position.{man_on}
use Rattle.chess_core.specs.SquareNames.{square_text}
use Rattle.chess_core.specs.declared.man.Man.{Man}
use Rattle.fen.specs.Letters.{blank, dash, digit_1, digit_8, man_text, slash, turn_letter}
use Rattle.fen.specs.declared.not_fen.NotFen.{NotFen}

-- the byte is a digit 1 to 8
abbrev pub is_digit : ℕ → Bool
is_digit byte = nat_le digit_1 byte && nat_le byte digit_8

-- the text with an empty square before it: the number in front grows by one, or a 1 is put in front
unfoldable pub with_empty : List ℕ → List ℕ
with_empty [] = digit_1 ∷ []
with_empty (first ∷ rest) =
    if is_digit first then (first + 1) ∷ rest else digit_1 ∷ first ∷ rest

-- the text with a square before it: a man or an empty square
unfoldable pub with_square : Option Man → List ℕ → List ℕ
with_square None text = with_empty text
with_square (Some man) text = man_text man ++ text

-- the text of squares in a row: the text of each man, a number for each run of empty squares
unfoldable pub row_text : List (Option Man) → List ℕ
row_text [] = []
row_text (square ∷ squares) = with_square square (row_text squares)

-- the text of a rank, from file a to file h
unfoldable pub rank_text : List (Option Man) → ℕ → List ℕ
rank_text men rank = row_text (map (man_on men) (range_with_len (8 * (rank - 1)) 8))

-- the text of the men: the ranks from 8 to 1, with slashes between them
unfoldable pub men_text : List (Option Man) → List ℕ
men_text men =
    join_with_byte slash (map (rank_text men) (8 ∷ 7 ∷ 6 ∷ 5 ∷ 4 ∷ 3 ∷ 2 ∷ 1 ∷ []))

-- the letter, if the castling is allowed
abbrev pub letter_if : Bool → ℕ → List ℕ
letter_if allowed letter = if allowed then letter ∷ [] else []

-- the letters of the castlings whose king and rook haven't moved, capitals for White: `K` is castling with
-- the rook on the h file, `Q` with the one on the a file
unfoldable pub castling_letters : Unmoved → List ℕ
castling_letters u =
    letter_if (u.e1 && u.h1) (capital_letter king_letter)
    ++ letter_if (u.e1 && u.a1) (capital_letter queen_letter)
    ++ letter_if (u.e8 && u.h8) king_letter ++ letter_if (u.e8 && u.a8) queen_letter

-- a dash stands for no letters
abbrev pub or_dash : List ℕ → List ℕ
or_dash [] = dash ∷ []
or_dash (first ∷ rest) = first ∷ rest

-- the text of the en passant square: its name, or a dash
abbrev pub crossed_text : Option ℕ → List ℕ
crossed_text None = dash ∷ []
crossed_text (Some square) = square_text square

-- the FEN of a diagram: men, side to move, castling rights and en passant square, with a blank between
unfoldable pub fen_text : Diagram → List ℕ
fen_text d =
    men_text d.men ++ blank ∷ turn_letter d.turn ∷ blank ∷ or_dash (castling_letters d.unmoved)
    ++ blank ∷ crossed_text d.crossed

-- FEN knows castlings, not squares (own): a king's square counts as unmoved exactly if that of a rook of
-- its side does
pub record HasFenRights (u : Unmoved) : Type 0 where
  pub white : u.e1 ≡ (u.a1 || u.h1)
  pub black : u.e8 ≡ (u.a8 || u.h8)

-- the text is the FEN of this diagram
pub record IsFenOf (text : List ℕ) (d : Diagram) : Type 0 where
  pub size : length d.men ≡ 64
  pub rights : HasFenRights d.unmoved
  pub crossed : IfSome d.crossed (λ square. square < 64)
  pub is : text ≡ fen_text d

-- a text is read as the diagram whose FEN it is; the error says that it is no diagram's
abbrev pub IsReadAs : List ℕ → Result Diagram NotFen → Type 0
IsReadAs text result = MatchResult result (IsFenOf text) (λ _. (d : Diagram) → IsFenOf text d → ⊥)
