-- Lines with men on them, and the bitboards of their squares.
use Rattle.chess_attacks.proofs.Chess.{Bool, Colour, Direction, East, EastNorthEast, EastSouthEast, Kind, List, Man, North, NorthEast, NorthNorthEast, NorthNorthWest, NorthWest, Option, South, SouthEast, SouthSouthEast, SouthSouthWest, SouthWest, Step, West, WestNorthWest, WestSouthWest, [], and_right, arith, bit_and, false, is_ahead, is_man, man_on, not, not_zero, ray, some_square, squares_both, squares_of, squares_same, true, word, word_empty, ℕ, ◌&&◌, ◌==◌, ◌∷◌, ◌≡◌}
use Rattle.chess_attacks.proofs.attacks.Attacking.{some_square_same}

-- the eight directions of a queen
abbrev pub queen_directions : List Direction
queen_directions = East ∷ West ∷ North ∷ South ∷ NorthEast ∷ SouthEast ∷ NorthWest ∷ SouthWest ∷ []

-- the nightrider's eight directions
abbrev pub knight_directions : List Direction
knight_directions = NorthNorthEast ∷ SouthSouthEast ∷ NorthNorthWest ∷ SouthSouthWest ∷ EastNorthEast ∷ EastSouthEast ∷ WestNorthWest ∷ WestSouthWest ∷ []

-- a line and a bitboard share a square exactly if some square of the bitboard is on the line
met : (test : ℕ → Bool) (k w r : ℕ) (d : Step) → w ≡ word test → r ≡ ray k d → not (bit_and r w == 0) ≡ some_square (λ q. test q && is_ahead k d q)
unfolding ray
met test k w r d h i = grind (arith, squares_both, not_zero, some_square_same)

-- every square of a line that carries a man of this kind is lined with it
pub line_meets : (test : ℕ → Bool) (k w r : ℕ) (d : Step) → w ≡ word test → r ≡ ray k d → (bit_and r w == 0) ≡ false
    → r ≡ word (λ t. is_ahead k d t && some_square (λ q. test q && is_ahead k d q))
unfolding ray
line_meets test k w r d h i some = grind (arith, squares_same, met test k w r d h i)

-- if a line carries no man of this kind, no square of the line is lined with it
pub line_misses : (test : ℕ → Bool) (k w r : ℕ) (d : Step) → w ≡ word test → r ≡ ray k d → (bit_and r w == 0) ≡ true
    → 0 ≡ word (λ t. is_ahead k d t && some_square (λ q. test q && is_ahead k d q))
line_misses test k w r d h i none = grind (arith, word_empty, and_right, met test k w r d h i)

-- the bitboard of the men of a colour and kind, by a test
pub man_test : (men : List (Option Man)) (e : Colour) (j : Kind) (w : ℕ) → w ≡ squares_of men e j → w ≡ word (λ q. is_man (man_on men q) e j)
unfolding squares_of
man_test men e j w h = h
