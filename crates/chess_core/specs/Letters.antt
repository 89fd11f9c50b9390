-- Letters of men and squares, by their ASCII codes.
use Rattle.std.specs.Prelude.{ℕ, ◌-◌}
use Rattle.chess_core.specs.declared.man.Kind.{Kind}
use Rattle.chess_core.specs.declared.man.Kind.TheVariants.{King, Queen, Rook, Bishop, Knight, Pawn, Grasshopper, Nightrider}

-- The small letters of men (Popeye manual, English letters: S is the knight, N the nightrider).

-- `k`
abbrev pub king_letter : ℕ
king_letter = 107

-- `q`
abbrev pub queen_letter : ℕ
queen_letter = 113

-- `r`
abbrev pub rook_letter : ℕ
rook_letter = 114

-- `b`
abbrev pub bishop_letter : ℕ
bishop_letter = 98

-- `s`
abbrev pub knight_letter : ℕ
knight_letter = 115

-- `p`
abbrev pub pawn_letter : ℕ
pawn_letter = 112

-- `g`
abbrev pub grasshopper_letter : ℕ
grasshopper_letter = 103

-- `n`
abbrev pub nightrider_letter : ℕ
nightrider_letter = 110

-- the capital letter of a small letter
abbrev pub capital_letter : ℕ → ℕ
capital_letter letter = letter - 32

-- the capital letter of a kind of man
abbrev pub letter_of : Kind → ℕ
letter_of King = capital_letter king_letter
letter_of Queen = capital_letter queen_letter
letter_of Rook = capital_letter rook_letter
letter_of Bishop = capital_letter bishop_letter
letter_of Knight = capital_letter knight_letter
letter_of Pawn = capital_letter pawn_letter
letter_of Grasshopper = capital_letter grasshopper_letter
letter_of Nightrider = capital_letter nightrider_letter

-- Letters of files and digits of ranks.

-- `a`
abbrev pub letter_a : ℕ
letter_a = 97

-- `0`
abbrev pub digit_0 : ℕ
digit_0 = 48
