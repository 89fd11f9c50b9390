-- Numbers, digit by digit.
use Rattle.std.proofs.Common.{List, ◌≡◌, ◌≤◌, ◌<◌, ◌*◌, ◌+◌, true, ℕ}
use Rattle.std.specs.List.{list_all}
use Rattle.pop_settings.specs.pops_part.Numbers.{greatest_number, is_digit, value_of}

-- The value of the digits so far: exact up to the greatest number, above it only known to be greater.
pub record DigitsSoFar (text : List ℕ) (value : ℕ) : Type 0 where
  pub digits : list_all is_digit text ≡ true
  pub same : value ≤ greatest_number → value ≡ value_of text
  pub more : greatest_number < value → greatest_number < value_of text
  pub room : value ≤ 10 * greatest_number + 9
