-- Lines seen from the arrival square (own).
use Rattle.std.specs.Prelude.{ℕ, ◌-◌, Bool, false, ◌&&◌, ◌||◌, List, Option, Some, None}
use Rattle.std.specs.List.{list_any, list_all, range_with_len}
use Rattle.chess_core.specs.Position.{is_fairy, is_man, man_on, same_colour, same_kind, is_of_colour}
use Rattle.chess_core.specs.Squares.{is_square, some_square}
use Rattle.chess_core.specs.Steps.{Step, along}
use Rattle.chess_core.specs.declared.man.Man.{Man}
use Rattle.chess_core.specs.declared.man.Colour.{Colour}
use Rattle.chess_core.specs.declared.man.Kind.{Kind}
use Rattle.chess_core.specs.declared.man.Kind.TheVariants.{King, Knight, Pawn, Queen}
use Rattle.chess_attacks.specs.Reaches.{is_occupied, is_vacant_at, rides, reaches}

-- the man, if there is one, is a fairy man of this colour
abbrev pub is_fairy_man : Option Man → Colour → Bool
is_fairy_man None c = false
is_fairy_man (Some x) c = same_colour x.colour c && is_fairy x.kind

-- the man, if there is one, is a king, a knight or a pawn of this colour
abbrev pub is_leaping_man : Option Man → Colour → Bool
is_leaping_man None c = false
is_leaping_man (Some x) c =
    same_colour x.colour c
    && (same_kind x.kind King || same_kind x.kind Knight || same_kind x.kind Pawn)

-- a queen or a man of kind k, of this colour, is on s, and a rider on t reaches s by one of the steps
unfoldable pub is_met : List (Option Man) → Colour → Kind → List Step → ℕ → ℕ → Bool
is_met men c k ds t s = (is_man (man_on men s) c k || is_man (man_on men s) c Queen)
    && list_any (rides men t s) ds

-- t is at least f steps from s, and every square from the f-th up to the one before t is empty
unfoldable pub rides_on : ℕ → List (Option Man) → ℕ → ℕ → Step → Bool
rides_on f men s t d =
    list_any (λ k. is_square (along s d k) t
    && list_all (λ i. is_vacant_at men (along s d i)) (range_with_len f (k - f)))
    (range_with_len f (8 - f))

-- a grasshopper on s hops to t in the direction opposite to d: a man is one step d from t, and s is
-- farther along this line, with empty squares between
unfoldable pub hopped_from : List (Option Man) → ℕ → ℕ → Step → Bool
hopped_from men t s d = is_occupied men (along t d 1) && rides_on 2 men t s d

-- some man of colour e reaches k, paralysed or not
unfoldable pub is_reached : List (Option Man) → ℕ → Colour → Bool
is_reached men k e = some_square (λ s. is_of_colour (man_on men s) e && reaches men s k)
