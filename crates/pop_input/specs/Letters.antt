-- Letters, digits and signs by their ASCII codes. The letters of men and files are in chess_core.
use Rattle.std.specs.Prelude.{ℕ}

-- The letters and signs of stipulations.

-- `#`
abbrev pub mate_sign : ℕ
mate_sign = 35

-- `=`
abbrev pub stalemate_sign : ℕ
stalemate_sign = 61

-- `s`
abbrev pub selfmate_letter : ℕ
selfmate_letter = 115

-- `h`
abbrev pub help_letter : ℕ
help_letter = 104

-- `.`
abbrev pub point : ℕ
point = 46

-- Digits, and the first letters of the colours.

-- `5`
abbrev pub digit_5 : ℕ
digit_5 = 53

-- `9`
abbrev pub digit_9 : ℕ
digit_9 = 57

-- `b`
abbrev pub letter_b : ℕ
letter_b = 98

-- `w`
abbrev pub letter_w : ℕ
letter_w = 119
