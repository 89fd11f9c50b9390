-- Words that are values: squares, numbers and stipulations (Popeye manual; the ranges are own).
use Rattle.std.specs.Prelude.{ℕ, ◌+◌, ◌-◌, ◌*◌, ◌==◌, ◌&&◌, nat_le, not, List, [], ◌∷◌, map, fold, Bool, if◌then◌else◌, Option, Some, None}
use Rattle.std.specs.Char.{to_ascii_lowercase}
use Rattle.std.specs.List.{list_all}
use Rattle.chess_core.specs.Squares.{square_at}
use Rattle.chess_core.specs.Letters.{digit_0, letter_a}
use Rattle.pop_input.specs.Letters.{digit_5, digit_9, help_letter, mate_sign, point, selfmate_letter, stalemate_sign}
use Rattle.pop_stipulation.specs.Stipulations.{may_have}
use Rattle.pop_stipulation.specs.declared.stipulation.Form.{Form}
use Rattle.pop_stipulation.specs.declared.stipulation.Form.TheVariants.{Direct, SelfMate, Help, HelpHalf}
use Rattle.pop_stipulation.specs.declared.stipulation.Goal.{Goal}
use Rattle.pop_stipulation.specs.declared.stipulation.Goal.TheVariants.{Mate, Stalemate}
use Rattle.pop_stipulation.specs.declared.stipulation.Stipulation.{Stipulation}

-- the square that a letter, in capitals or not, and a digit name
abbrev pub square_by : ℕ → ℕ → Option ℕ
square_by letter digit = square_at (to_ascii_lowercase letter - (letter_a - 1)) (digit - digit_0)

-- a square followed by other squares, if there are both
abbrev pub before_squares : Option ℕ → Option (List ℕ) → Option (List ℕ)
before_squares (Some square) (Some squares) = Some (square ∷ squares)
before_squares (Some square) None = None
before_squares None squares = None

-- the squares of a text of pairs, each a letter and a digit
abbrev pub squares_from : List ℕ → Option (List ℕ)
squares_from [] = Some []
squares_from (letter ∷ []) = None
squares_from (letter ∷ digit ∷ text) = before_squares (square_by letter digit) (squares_from text)

-- the squares of a word that is one or more squares and nothing else
unfoldable pub squares_named : List ℕ → Option (List ℕ)
squares_named [] = None
squares_named (b ∷ text) = squares_from (b ∷ text)

-- the square of a list of exactly one
abbrev pub only_square : Option (List ℕ) → Option ℕ
only_square (Some (square ∷ [])) = Some square
only_square (Some []) = None
only_square (Some (square ∷ other ∷ squares)) = None
only_square None = None

-- whether a byte is a decimal digit
abbrev pub is_digit : ℕ → Bool
is_digit b = nat_le digit_0 b && nat_le b digit_9

-- the value of decimal digits
abbrev pub value_of : List ℕ → ℕ
value_of text = fold (λ value digit. 10 * value + (digit - digit_0)) 0 text

-- the greatest number that MaxSolutions takes (own)
abbrev pub most_solutions : ℕ
most_solutions = 4000000000

-- the limit of solutions that decimal digits state
unfoldable pub limit_of : List ℕ → Option ℕ
limit_of text = if list_all is_digit text
    && (nat_le 1 (value_of text) && nat_le (value_of text) most_solutions) then Some (value_of text)
    else None

-- the goal of a sign, `#` or `=`
abbrev pub goal_of : ℕ → Option Goal
goal_of sign = if sign == mate_sign then Some Mate
    else (if sign == stalemate_sign then Some Stalemate else None)

-- the value of one digit
abbrev pub one_digit : ℕ → Option ℕ
one_digit a = if is_digit a then Some (a - digit_0) else None

-- the value of two digits, if the first isn't 0
abbrev pub two_digits : ℕ → ℕ → Option ℕ
two_digits a b = if (is_digit a && not (a == digit_0))
    && is_digit b then Some (10 * (a - digit_0) + (b - digit_0)) else None

-- a stipulation, if its goal and its number of moves are there and the number is in range
abbrev pub stipulation_with : Form → Option Goal → Option ℕ → Option Stipulation
stipulation_with form (Some goal) (Some n) = if may_have form n
    then Some (record { form = form; goal = goal; n = n }) else None
stipulation_with form None _ = None
stipulation_with form (Some goal) None = None

-- the stipulation of a word in small letters: `#n`, `s#n`, `h#n` or `h#n.5`, with `#` or `=`
abbrev pub stipulation_in_small_letters : List ℕ → Option Stipulation
stipulation_in_small_letters [] = None
stipulation_in_small_letters (a ∷ []) = None
stipulation_in_small_letters (a ∷ n ∷ []) = stipulation_with Direct (goal_of a) (one_digit n)
stipulation_in_small_letters (a ∷ b ∷ n ∷ []) =
    if a == selfmate_letter then stipulation_with SelfMate (goal_of b) (one_digit n)
    else (if a == help_letter then stipulation_with Help (goal_of b) (one_digit n)
    else stipulation_with Direct (goal_of a) (two_digits b n))
stipulation_in_small_letters (a ∷ b ∷ m ∷ n ∷ []) =
    if a == selfmate_letter then stipulation_with SelfMate (goal_of b) (two_digits m n)
    else (if a == help_letter then stipulation_with Help (goal_of b) (two_digits m n) else None)
stipulation_in_small_letters (a ∷ b ∷ n ∷ c ∷ d ∷ []) =
    if (a == help_letter) && ((c == point) && (d == digit_5))
    then stipulation_with HelpHalf (goal_of b) (one_digit n) else None
stipulation_in_small_letters (a ∷ b ∷ m ∷ n ∷ c ∷ d ∷ []) =
    if (a == help_letter) && ((c == point) && (d == digit_5))
    then stipulation_with HelpHalf (goal_of b) (two_digits m n) else None
stipulation_in_small_letters (a ∷ b ∷ m ∷ n ∷ c ∷ d ∷ e ∷ text) = None

-- the stipulation that a word states, in capitals or not
unfoldable pub stipulation_of : List ℕ → Option Stipulation
stipulation_of text = stipulation_in_small_letters (map to_ascii_lowercase text)
