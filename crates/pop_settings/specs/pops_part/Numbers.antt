-- The values of options: numbers, ranges and names (own).
use Rattle.std.specs.Prelude.{ℕ, ◌+◌, ◌-◌, ◌*◌, ◌==◌, ◌&&◌, nat_le, nat_lt, Bool, if◌then◌else◌, List, [], ◌∷◌, fold, take, drop, length, codes, Option, Some, None}
use Rattle.std.specs.List.{list_all, prefix_len}
use Rattle.std.specs.Str.{bytes_eq}
use Rattle.pop_settings.specs.declared.pops_part.wanted.PhaseName.{PhaseName}
use Rattle.pop_settings.specs.declared.pops_part.wanted.PhaseName.TheVariants.{Set, Play}
use Rattle.pop_settings.specs.declared.pops_part.values.Range.{Range}

-- `.`
abbrev pub point : ℕ
point = 46

-- `0`
abbrev pub digit_0 : ℕ
digit_0 = 48

-- `1`
abbrev pub digit_1 : ℕ
digit_1 = 49

-- `4`
abbrev pub digit_4 : ℕ
digit_4 = 52

-- `9`
abbrev pub digit_9 : ℕ
digit_9 = 57

-- whether a byte is a decimal digit
abbrev pub is_digit : ℕ → Bool
is_digit b = nat_le digit_0 b && nat_le b digit_9

-- the value of decimal digits
abbrev pub value_of : List ℕ → ℕ
value_of text = fold (λ value digit. 10 * value + (digit - digit_0)) 0 text

-- the greatest number
abbrev pub greatest_number : ℕ
greatest_number = 999999999999999999

-- the number that decimal digits state, if it is at most the greatest number
unfoldable pub number_in : List ℕ → Option ℕ
number_in text = if nat_lt 0 (length text) && (list_all is_digit text
    && nat_le (value_of text) greatest_number)
    then Some (value_of text) else None

-- the last number of a range from its first number and the text after that, which is empty, or two points and a number
abbrev pub last_in : ℕ → List ℕ → Option ℕ
last_in first [] = Some first
last_in first (a ∷ []) = None
last_in first (a ∷ b ∷ text) = if a == point && b == point then number_in text else None

-- the range from a first to a last number, if they are in order
abbrev pub ordered_range : ℕ → Option ℕ → Option Range
ordered_range first None = None
ordered_range first (Some last) =
    if nat_le first last then Some (record { first = first; last = last }) else None

-- the range of a first number and the text after it
abbrev pub range_from : Option ℕ → List ℕ → Option Range
range_from None following = None
range_from (Some first) following = ordered_range first (last_in first following)

-- a range: `A`, or `A..B` with B at least A
unfoldable pub range_in : List ℕ → Option Range
range_in text = range_from (number_in (take (prefix_len is_digit text) text))
    (drop (prefix_len is_digit text) text)

-- how many first moves a part of help play fixes: a digit from 1 to 4
unfoldable pub depth_in : List ℕ → Option ℕ
depth_in [] = None
depth_in (a ∷ []) = if nat_le digit_1 a && nat_le a digit_4 then Some (a - digit_0) else None
depth_in (a ∷ b ∷ text) = None

-- the phase with this name
unfoldable pub phase_in : List ℕ → Option PhaseName
phase_in text = if bytes_eq text (codes "set") then Some Set
    else (if bytes_eq text (codes "play") then Some Play else None)
