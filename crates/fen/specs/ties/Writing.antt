-- Parts of a text as they are written (own).
use Rattle.std.specs.Prelude.{ℕ, zero, suc, ◌+◌, ◌%◌, ◌==◌, if◌then◌else◌, List, [], ◌∷◌, ◌++◌, Option, Some, None}
use Rattle.chess_core.specs.declared.man.Man.{Man}
use Rattle.fen.specs.Letters.{digit_1, man_text}
use Rattle.fen.specs.ties.Reading.{mark}

-- the text of a number of empty squares, if there are any
abbrev pub number_text : ℕ → List ℕ
number_text zero = []
number_text (suc n) = (digit_1 + n) ∷ []

-- what is written for a square: a man, and before it the number of empty squares
abbrev pub written_text : ℕ → Option Man → List ℕ
written_text empty None = []
written_text empty (Some man) = number_text empty ++ man_text man

-- the number of empty squares that are still to be written after a square
abbrev pub empty_next : ℕ → Option Man → ℕ
empty_next empty None = empty + 1
empty_next empty (Some man) = 0

-- what is written at the end of a rank: the mark, and before it the number of empty squares
abbrev pub mark_text : ℕ → ℕ → List ℕ
mark_text after empty = if after % 8 == 0 then number_text empty ++ mark after ∷ [] else []

-- the number of empty squares that are still to be written after the mark
abbrev pub empty_left : ℕ → ℕ → ℕ
empty_left after empty = if after % 8 == 0 then 0 else empty
