-- Lines on the empty board, and the order in which they cross squares (own).
use Rattle.std.specs.Prelude.{ℕ, ◌+◌, ◌-◌, ◌*◌, ◌≡◌, ◌<◌, ◌≤◌, ◌==◌, Bool, true, false, ◌||◌, nat_le, List, [], ◌∷◌, Option, Some, None, is_some, map, if◌then◌else◌, ◌&&◌}
use Rattle.std.specs.Int.{bit_at}
use Rattle.std.specs.List.{list_any, range_with_len}
use Rattle.chess_core.specs.Position.{man_on, is_man}
use Rattle.chess_core.specs.Squares.{is_square, squares, some_square}
use Rattle.chess_core.specs.Steps.{Step, along, step_by}
use Rattle.chess_core.specs.ties.Words.{word}
use Rattle.chess_core.specs.declared.man.Colour.{Colour}
use Rattle.chess_core.specs.declared.man.Colour.TheVariants.{White}
use Rattle.chess_core.specs.declared.man.Kind.TheVariants.{Pawn}
use Rattle.chess_core.specs.declared.man.Man.{Man}
use Rattle.chess_attacks.specs.Reaches.{forward, reaches_as}
use Rattle.chess_attacks.specs.declared.lines.Direction.{Direction}
use Rattle.chess_attacks.specs.declared.lines.Direction.TheVariants.{East, West, North, South, NorthEast, SouthEast, NorthWest, SouthWest, NorthNorthEast, SouthSouthEast, NorthNorthWest, SouthSouthWest, EastNorthEast, EastSouthEast, WestNorthWest, WestSouthWest}
use Rattle.chess_core.specs.declared.man.Kind.{Kind}

-- the step of each direction: the queen's eight, then the nightrider's eight
abbrev pub step_of : Direction → Step
step_of East = step_by 1 0 0 0
step_of West = step_by 0 1 0 0
step_of North = step_by 0 0 1 0
step_of South = step_by 0 0 0 1
step_of NorthEast = step_by 1 0 1 0
step_of SouthEast = step_by 1 0 0 1
step_of NorthWest = step_by 0 1 1 0
step_of SouthWest = step_by 0 1 0 1
step_of NorthNorthEast = step_by 1 0 2 0
step_of SouthSouthEast = step_by 1 0 0 2
step_of NorthNorthWest = step_by 0 1 2 0
step_of SouthSouthWest = step_by 0 1 0 2
step_of EastNorthEast = step_by 2 0 1 0
step_of EastSouthEast = step_by 2 0 0 1
step_of WestNorthWest = step_by 0 2 1 0
step_of WestSouthWest = step_by 0 2 0 1

-- the occupied squares
abbrev pub occupied_squares : List (Option Man) → ℕ
occupied_squares men = word (λ s. is_some (man_on men s))

-- men on exactly the squares of the bitboard d
abbrev pub men_on : ℕ → List (Option Man)
men_on d =
    map (λ s. if bit_at d s == 1 then Some (record { colour = White; kind = Pawn }) else None)
    squares

-- the nightrider's steps of two ranks and one file
abbrev pub steep_steps : List Step
steep_steps = step_of NorthNorthEast ∷ step_of SouthSouthEast ∷ step_of NorthNorthWest
    ∷ step_of SouthSouthWest ∷ []

-- the nightrider's steps of one rank and two files
abbrev pub flat_steps : List Step
flat_steps = step_of EastNorthEast ∷ step_of EastSouthEast ∷ step_of WestNorthWest
    ∷ step_of WestSouthWest ∷ []

-- the number of a direction in the order of directions
abbrev pub direction_number : Direction → ℕ
direction_number East = 0
direction_number West = 1
direction_number North = 2
direction_number South = 3
direction_number NorthEast = 4
direction_number SouthEast = 5
direction_number NorthWest = 6
direction_number SouthWest = 7
direction_number NorthNorthEast = 8
direction_number SouthSouthEast = 9
direction_number NorthNorthWest = 10
direction_number SouthSouthWest = 11
direction_number EastNorthEast = 12
direction_number EastSouthEast = 13
direction_number WestNorthWest = 14
direction_number WestSouthWest = 15

-- t is on the line from s in this direction
unfoldable pub is_ahead : ℕ → Step → ℕ → Bool
is_ahead s d t = list_any (λ k. is_square (along s d k) t) (range_with_len 1 7)

-- the squares of the line from s in this direction
unfoldable pub ray : ℕ → Step → ℕ
ray s d = word (is_ahead s d)

-- t is on one of the lines from s
unfoldable pub is_on_some : List Step → ℕ → ℕ → Bool
is_on_some ds s t = list_any (λ d. is_ahead s d t) ds

-- t is one or two squares ahead of a pawn on s
abbrev pub is_advance : Colour → ℕ → ℕ → Bool
is_advance c s t = is_square (along s (forward c) 1) t || is_square (along s (forward c) 2) t

-- t is two files to either side of s, on its rank
abbrev pub is_two_files_aside : ℕ → ℕ → Bool
is_two_files_aside s t = is_square (along s (step_by 2 0 0 0) 1) t
    || is_square (along s (step_by 0 2 0 0) 1) t

-- the square numbers rise along a line of this step
unfoldable pub rises : Step → Bool
rises d = nat_le (d.left + 8 * d.down + 1) (d.right + 8 * d.up)

-- the order in which a line crosses squares: rising or falling numbers
abbrev pub passing_order_by : Bool → ℕ → ℕ
passing_order_by true s = s
passing_order_by false s = 63 - s

-- the order in which lines of this step cross squares
abbrev pub place : Step → ℕ → ℕ
place d s = passing_order_by (rises d) s

-- b is the first square of the bitboard w in this order; or the last square of the board, if w is empty
pub record IsStop (d : Step) (w b : ℕ) : Type 0 where
  pub small : b < 64
  pub first : (q : ℕ) → q < 64 → bit_at w q ≡ 1 → place d b ≤ place d q
  pub here : place d b < 63 → bit_at w b ≡ 1

-- r holds all squares up to the first one of w in this order
pub record IsUpTo (d : Step) (w r : ℕ) : Type 0 where
  pub last : ℕ
  pub stop : IsStop d w last
  pub squares : r ≡ word (λ t. nat_le (place d t) (place d last))

-- t is on a line from k by this step, and a man of colour e and kind j is on the line too
abbrev pub is_lined : List (Option Man) → Colour → Kind → ℕ → ℕ → Step → Bool
is_lined men e j k t d = is_ahead k d t && some_square
    (λ q. is_man (man_on men q) e j && is_ahead k d q)

-- w holds each square that x on s reaches on some board
pub record AreReached (x : Man) (s w : ℕ) : Type 0 where
  pub inside : (men : List (Option Man)) (t : ℕ) → t < 64
      → reaches_as men x.colour x.kind s t ≡ true
      → (bit_at w t == 1) ≡ true
