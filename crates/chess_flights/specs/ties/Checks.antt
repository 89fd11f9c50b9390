-- Squares from which a man may give check (own).
use Rattle.std.specs.Prelude.{ℕ, Bool, false, ◌&&◌, ◌||◌, not, List, Option, Some, None}
use Rattle.chess_core.specs.Position.{is_fairy, is_man, king_square, man_on, other}
use Rattle.chess_core.specs.Squares.{some_square}
use Rattle.chess_core.specs.declared.man.Man.{Man}
use Rattle.chess_core.specs.declared.man.Colour.{Colour}
use Rattle.chess_core.specs.declared.man.Kind.{Kind}
use Rattle.chess_attacks.specs.Reaches.{reaches_as}

-- x is a fairy man, and no man of its colour and kind is on the board
abbrev pub is_absent : List (Option Man) → Man → Bool
is_absent men x = is_fairy x.kind && not (some_square (λ q. is_man (man_on men q) x.colour x.kind))

-- x on t may give check to a king on this square, if there is one; a fairy man of an absent kind may from
-- everywhere
abbrev pub may_check_from_at : List (Option Man) → Option ℕ → Man → ℕ → Bool
may_check_from_at men None x t = false
may_check_from_at men (Some k) x t = is_absent men x || reaches_as men x.colour x.kind t k

-- x on t may give check to the king of colour c
unfoldable pub may_check_from : List (Option Man) → Colour → Man → ℕ → Bool
may_check_from men c x t = may_check_from_at men (king_square men c) x t

-- a man of this kind, an enemy of colour c
abbrev pub enemy : Colour → Kind → Man
enemy c j = record { colour = other c; kind = j }
