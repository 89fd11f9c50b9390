-- The letters of FEN, by their ASCII codes (PGN Standard, section 16.1.3; for fairy men the page's).
use Rattle.std.specs.Prelude.{ℕ, Bool, not, ◌==◌, ◌&&◌, if◌then◌else◌, List, [], ◌∷◌}
use Rattle.std.specs.Char.{to_ascii_lowercase}
use Rattle.chess_core.specs.Letters.{capital_letter, letter_of as letter_of_kind}
use Rattle.chess_core.specs.Position.{same_kind}
use Rattle.chess_core.specs.declared.man.Colour.{Colour}
use Rattle.chess_core.specs.declared.man.Colour.TheVariants.{White, Black}
use Rattle.chess_core.specs.declared.man.Kind.{Kind}
use Rattle.chess_core.specs.declared.man.Kind.TheVariants.{Knight}
use Rattle.chess_core.specs.declared.man.Man.{Man}

-- `n`, the letter of knights
abbrev pub knight_letter : ℕ
knight_letter = 110

-- the small letter of a kind of man: the one of Popeye's manual, but for knights `n`
abbrev pub small_letter : Kind → ℕ
small_letter Knight = knight_letter
small_letter kind = to_ascii_lowercase (letter_of_kind kind)

-- men of this kind stand in brackets: they have the letter of knights, and are none
abbrev pub is_bracketed : Kind → Bool
is_bracketed kind = small_letter kind == knight_letter && not (same_kind kind Knight)

-- a letter as a colour's men have it: White's are capitals
abbrev pub letter_in : Colour → ℕ → ℕ
letter_in White letter = capital_letter letter
letter_in Black letter = letter

-- the letter of a man
abbrev pub letter_of : Man → ℕ
letter_of man = letter_in man.colour (small_letter man.kind)

-- `(`
abbrev pub left_bracket : ℕ
left_bracket = 40

-- `)`
abbrev pub right_bracket : ℕ
right_bracket = 41

-- the text of a man: its letter, in brackets for a nightrider, whose letter is a knight's
abbrev pub man_text : Man → List ℕ
man_text man =
    if is_bracketed man.kind then left_bracket ∷ letter_of man ∷ right_bracket ∷ []
    else letter_of man ∷ []

-- the letter of the side to move: `w` or `b`
abbrev pub turn_letter : Colour → ℕ
turn_letter White = 119
turn_letter Black = 98

-- ` `
abbrev pub blank : ℕ
blank = 32

-- `-`
abbrev pub dash : ℕ
dash = 45

-- `/`
abbrev pub slash : ℕ
slash = 47

-- `1`
abbrev pub digit_1 : ℕ
digit_1 = 49

-- `8`
abbrev pub digit_8 : ℕ
digit_8 = 56
