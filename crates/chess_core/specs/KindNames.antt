-- The kinds of men by their letters.
use Rattle.std.specs.Prelude.{ℕ, ◌==◌, find, Option}
use Rattle.std.specs.Char.{to_ascii_uppercase}
use Rattle.chess_core.specs.Letters.{letter_of}
use Rattle.chess_core.specs.Position.{kinds}
use Rattle.chess_core.specs.declared.man.Kind.{Kind}

-- the kind with this letter, in capitals or not
unfoldable pub kind_of : ℕ → Option Kind
kind_of letter = find (λ kind. letter_of kind == to_ascii_uppercase letter) kinds
