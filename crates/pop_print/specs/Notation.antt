-- The text of men and colours.
use Rattle.std.specs.Prelude.{ℕ, ◌+◌, List, [], ◌∷◌}
use Rattle.chess_core.specs.Letters.{letter_of}
use Rattle.pop_input.specs.Letters.{letter_b, letter_w}
use Rattle.chess_core.specs.declared.man.Colour.{Colour}
use Rattle.chess_core.specs.declared.man.Colour.TheVariants.{White, Black}
use Rattle.chess_core.specs.declared.man.Kind.{Kind}
use Rattle.chess_core.specs.declared.man.Kind.TheVariants.{Pawn}

-- a blank
abbrev pub blank : ℕ
blank = 32

-- the small letter of a capital letter
abbrev pub small_letter : ℕ → ℕ
small_letter letter = letter + 32

-- the letter of the man that moves, before its origin: a pawn has none
abbrev pub man_text : Kind → List ℕ
man_text Pawn = []
man_text kind = letter_of kind ∷ []

-- the letter of a colour, `w` or `b`
abbrev pub colour_letter : Colour → ℕ
colour_letter White = letter_w
colour_letter Black = letter_b
