-- The occupied squares that attacks depend on, now or after a move (own).
use Rattle.std.specs.Prelude.{◌≡◌, ℕ, List, Option, Some}
use Rattle.std.specs.Int.{bit_not, w64}
use Rattle.std.specs.Int.Bits.{bit_and, bit_or}
use Rattle.chess_core.specs.Squares.{is_square}
use Rattle.chess_core.specs.ties.Words.{squares_of, word}
use Rattle.chess_core.specs.declared.man.Colour.{Colour}
use Rattle.chess_core.specs.declared.man.Kind.{Kind}
use Rattle.chess_core.specs.declared.man.Man.{Man}
use Rattle.chess_attacks.specs.ties.Lines.{occupied_squares}
use Rattle.chess_attacks.specs.declared.occupancy.Occupancy.{Occupancy}

-- v describes `men`: v.occupied holds their squares, and the men of colour c among them are exactly the
-- men of `before` on squares of v.standing
pub record DescribesMen (before men : List (Option Man)) (c : Colour) (v : Occupancy) : Type 0 where
  pub occupied : v.occupied ≡ occupied_squares men
  pub standing : (k : Kind) → bit_and (squares_of before c k) v.standing ≡ squares_of men c k

-- the occupancy after the man on a has gone to b and the man on o has left the board
abbrev pub occupancy_after : List (Option Man) → ℕ → Option ℕ → ℕ → Occupancy
occupancy_after men a o b = record {
  occupied = bit_or (bit_and (occupied_squares men)
      (bit_not w64 (bit_or (word (is_square (Some a))) (word (is_square o)))))
      (word (is_square (Some b)));
  standing = bit_not w64 (word (is_square o));
}
