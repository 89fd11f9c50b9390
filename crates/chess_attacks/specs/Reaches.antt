-- Where men move by their steps (FIDE Laws 3.2 to 3.8; fairy men by the Popeye manual). A line has at most
-- seven steps, since the board has eight files and eight ranks.
use Rattle.std.specs.Prelude.{ℕ, ◌-◌, Bool, false, ◌&&◌, List, Option, Some, None, is_some}
use Rattle.std.specs.List.{list_any, list_all, range_with_len}
use Rattle.chess_core.specs.Squares.{is_square}
use Rattle.chess_core.specs.Steps.{Step, along, gait_of, kind_steps, step_by}
use Rattle.chess_core.specs.Position.{man_on}
use Rattle.chess_core.specs.WellFormed.{is_vacant}
use Rattle.chess_core.specs.declared.man.Man.{Man}
use Rattle.chess_core.specs.declared.man.Colour.{Colour}
use Rattle.chess_core.specs.declared.man.Kind.{Kind}
use Rattle.chess_core.specs.declared.man.Gait.{Gait}
use Rattle.chess_core.specs.declared.man.Gait.TheVariants.{Leaper, Rider, Hopper}
use Rattle.chess_core.specs.declared.man.Colour.TheVariants.{White, Black}

-- the square is on the board and empty
abbrev pub is_vacant_at : List (Option Man) → Option ℕ → Bool
is_vacant_at men None = false
is_vacant_at men (Some s) = is_vacant men s

-- the square is on the board and holds a man
abbrev pub is_occupied : List (Option Man) → Option ℕ → Bool
is_occupied men None = false
is_occupied men (Some s) = is_some (man_on men s)

-- the first n squares from s in this direction are empty
unfoldable pub is_clear : List (Option Man) → ℕ → Step → ℕ → Bool
is_clear men s d n = list_all (λ i. is_vacant_at men (along s d i)) (range_with_len 1 n)

-- t is one or more steps from s, and every square between is empty
unfoldable pub rides : List (Option Man) → ℕ → ℕ → Step → Bool
rides men s t d =
    list_any (λ k. is_square (along s d k) t && is_clear men s d (k - 1)) (range_with_len 1 7)

-- t is the square right after the first man on the line from s
unfoldable pub hops : List (Option Man) → ℕ → ℕ → Step → Bool
hops men s t d =
    list_any (λ k. is_square (along s d k) t && is_occupied men (along s d (k - 1))
    && is_clear men s d (k - 2)) (range_with_len 2 6)

-- t is one step from s
unfoldable pub leaps : ℕ → ℕ → Step → Bool
leaps s t d = is_square (along s d 1) t

-- a man of this gait on s moves to t by this step
abbrev pub goes_by : Gait → List (Option Man) → ℕ → ℕ → Step → Bool
goes_by Leaper men = leaps
goes_by Rider men = rides men
goes_by Hopper men = hops men

-- a man of this colour and kind on s could capture an enemy on t
unfoldable pub reaches_as : List (Option Man) → Colour → Kind → ℕ → ℕ → Bool
reaches_as men c k s t = list_any (goes_by (gait_of k) men s t) (kind_steps c k)

-- this man, if there is one, could capture an enemy on t from s
abbrev pub reaches_of : List (Option Man) → Option Man → ℕ → ℕ → Bool
reaches_of men None s t = false
reaches_of men (Some x) s t = reaches_as men x.colour x.kind s t

-- a man is on s and could capture an enemy on t
unfoldable pub reaches : List (Option Man) → ℕ → ℕ → Bool
reaches men s t = reaches_of men (man_on men s) s t

-- a pawn's step forward (FIDE Laws 3.7.1)
abbrev pub forward : Colour → Step
forward White = step_by 0 0 1 0
forward Black = step_by 0 0 0 1
