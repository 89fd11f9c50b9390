-- Squares and numbers, byte by byte.
use Rattle.pop_input.proofs.Words.{List, None, Option, Some, [], append_assoc, arith, before_squares, drop, drop_more, get_or, is_digit, length, list_all, map, most_solutions, refl, square_by, squares_from, stipulation_in_small_letters, to_ascii_lowercase, true, value_of, ℕ, ◌*◌, ◌++◌, ◌+◌, ◌<◌, ◌∷◌, ◌≡◌, ◌≤◌}
use Rattle.std.proofs.Math.Seq.{drop-length}

-- squares, followed by the squares of a text
abbrev pub with_front : List ℕ → Option (List ℕ) → Option (List ℕ)
with_front done None = None
with_front done (Some squares) = Some (done ++ squares)

-- one more square, followed by the squares of a text
pub front_more : (done : List ℕ) (square : ℕ) (squares : Option (List ℕ))
    → with_front done (before_squares (Some square) squares) ≡ with_front (done ++ square ∷ []) squares
front_more done square squares = grind (arith, append_assoc)

-- The value of the digits so far: exact up to the greatest limit, above it only known to be greater.
pub record DigitsSoFar (text : List ℕ) (value : ℕ) : Type 0 where
  pub digits : list_all is_digit text ≡ true
  pub same : value ≤ most_solutions → value ≡ value_of text
  pub more : most_solutions < value → most_solutions < value_of text
  pub room : value ≤ 10 * most_solutions + 9

-- a last byte alone
pub odd_end : (word : List ℕ) (at : ℕ) → at < length word → at + 1 ≡ length word → squares_from (drop at word) ≡ None
odd_end word at lt e = grind (arith, drop-length word, drop_more word at 0)

-- two bytes that name a square
pub pair_step : (word : List ℕ) (at square : ℕ) → at + 1 < length word → square_by (get_or word at 0) (get_or word (at + 1) 0) ≡ Some square
    → squares_from (drop at word) ≡ before_squares (Some square) (squares_from (drop (at + 2) word))
pair_step word at square lt e = grind (arith, drop_more word at 0, drop_more word (at + 1) 0)

-- a stipulation has at most six bytes
pub long_stipulation : (word : List ℕ) → 6 < length word → None ≡ stipulation_in_small_letters (map to_ascii_lowercase word)
long_stipulation [] h = absurd (omega arith)
long_stipulation (a ∷ []) h = absurd (omega arith)
long_stipulation (a ∷ b ∷ []) h = absurd (omega arith)
long_stipulation (a ∷ b ∷ c ∷ []) h = absurd (omega arith)
long_stipulation (a ∷ b ∷ c ∷ d ∷ []) h = absurd (omega arith)
long_stipulation (a ∷ b ∷ c ∷ d ∷ e ∷ []) h = absurd (omega arith)
long_stipulation (a ∷ b ∷ c ∷ d ∷ e ∷ f ∷ []) h = absurd (omega arith)
long_stipulation (a ∷ b ∷ c ∷ d ∷ e ∷ f ∷ g ∷ word) h = refl
