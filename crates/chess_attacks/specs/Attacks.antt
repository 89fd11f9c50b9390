-- Attack, paralysis and check (FIDE Laws 3.1.2 and 3.9; Popeye manual, Madrasi). Own: a pawn's step and an
-- en passant capture are no attacks, and a paralysed man still paralyses.
use Rattle.std.specs.Prelude.{ℕ, Bool, false, ◌&&◌, not, List, Option, Some, None}
use Rattle.chess_core.specs.Squares.{some_square}
use Rattle.chess_core.specs.Position.{man_on, is_of_colour, is_man, same_kind, other, king_square}
use Rattle.chess_core.specs.declared.man.Man.{Man}
use Rattle.chess_core.specs.declared.man.Colour.{Colour}
use Rattle.chess_core.specs.declared.man.Kind.TheVariants.{King}
use Rattle.chess_attacks.specs.RuleSet.{RuleSet, like_men_paralyse}
use Rattle.chess_attacks.specs.Reaches.{reaches}

-- the man on q is an enemy of x of the same kind and reaches s
unfoldable pub attacks_like : List (Option Man) → Man → ℕ → ℕ → Bool
attacks_like men x s q = is_man (man_on men q) (other x.colour) x.kind && reaches men q s

-- an enemy man of the same kind as x reaches s
unfoldable pub is_attacked_by_like : List (Option Man) → Man → ℕ → Bool
is_attacked_by_like men x s = some_square (attacks_like men x s)

-- the man on s is no king, and an enemy man of its kind reaches s
abbrev pub is_attacked_by_like_man : List (Option Man) → Option Man → ℕ → Bool
is_attacked_by_like_man men None s = false
is_attacked_by_like_man men (Some x) s = not (same_kind x.kind King) && is_attacked_by_like men x s

-- in Madrasi: the man on s is no king, and an enemy man of its kind reaches s
unfoldable pub is_paralysed : RuleSet → List (Option Man) → ℕ → Bool
is_paralysed rule men s = like_men_paralyse rule && is_attacked_by_like_man men (man_on men s) s

-- the man on s is of colour c, isn't paralysed and reaches t
unfoldable pub is_attacker : RuleSet → List (Option Man) → ℕ → Colour → ℕ → Bool
is_attacker rule men t c s =
    is_of_colour (man_on men s) c && not (is_paralysed rule men s) && reaches men s t

-- some man of colour c that isn't paralysed reaches t
unfoldable pub is_attacked : RuleSet → List (Option Man) → ℕ → Colour → Bool
is_attacked rule men t c = some_square (is_attacker rule men t c)

-- the square, if there is one, is attacked by colour c
abbrev pub is_attacked_at : RuleSet → List (Option Man) → Option ℕ → Colour → Bool
is_attacked_at rule men None c = false
is_attacked_at rule men (Some t) c = is_attacked rule men t c

-- c has a king, and the other colour attacks its square
unfoldable pub in_check : RuleSet → List (Option Man) → Colour → Bool
in_check rule men c = is_attacked_at rule men (king_square men c) (other c)
