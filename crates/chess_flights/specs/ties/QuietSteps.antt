-- Steps of the enemy king that give no check, found for all moves of one man (own).
use Rattle.std.specs.Prelude.{◌≡◌, ℕ, Bool, true, false, List, Option, Some}
use Rattle.std.specs.Int.{bit_not, w64}
use Rattle.std.specs.Int.Bits.{bit_and, bit_or}
use Rattle.std.specs.List.{list_all}
use Rattle.chess_core.specs.Position.{Position, king_square, other, same_kind}
use Rattle.chess_core.specs.Squares.{is_square}
use Rattle.chess_core.specs.ties.Words.{word}
use Rattle.chess_core.specs.declared.man.Kind.TheVariants.{King}
use Rattle.chess_core.specs.declared.man.Man.{Man}
use Rattle.chess_core.specs.declared.man.Move.{Move}
use Rattle.chess_flights.specs.ties.Approaches.{IsLeft}
use Rattle.chess_flights.specs.ties.Mates.{is_mating}
use Rattle.chess_rules.specs.Legal.{moves}
use Rattle.chess_rules.specs.Play.{position_after}
use Rattle.chess_attacks.specs.RuleSet.{RuleSet, like_men_paralyse}
use Rattle.chess_attacks.specs.declared.occupancy.Occupancy.{Occupancy}
use Rattle.chess_attacks.specs.ties.Lines.{occupied_squares}
use Rattle.chess_attacks.specs.ties.Outward.{is_reached}
use Rattle.chess_attacks.specs.ties.Occupancy.{DescribesMen}

-- each reply to the move mates
abbrev pub must_reply_with_mate : RuleSet → Position → Move → Bool
must_reply_with_mate rule p m =
    list_all (is_mating rule (position_after rule p m)) (moves rule (position_after rule p m))

-- the occupancy without the men on two squares
abbrev pub occupancy_without : List (Option Man) → ℕ → ℕ → Occupancy
occupancy_without men a k =
    let gone = bit_or (word (is_square (Some a))) (word (is_square (Some k))) in
    record {
      occupied = bit_and (occupied_squares men) (bit_not w64 gone);
      standing = bit_not w64 gone;
    }

-- after x has arrived on t, the enemy king's step to f remains of w: neither x nor another standing man of
-- the mover reaches f
pub record IsStepLeft (p : Position) (v : Occupancy) (w : ℕ) (x : Man) (t f : ℕ) : Type 0 where
  pub left : IsLeft w x t f
  pub others : (men : List (Option Man)) → DescribesMen p.men men p.turn v
      → is_reached men f p.turn ≡ false

-- after x has left and the enemy king has stepped from k, no standing man of the enemy reaches the
-- mover's king; if x is the mover's king, none reaches k, and the rules paralyse no man
pub record AreQuiet (rule : RuleSet) (p : Position) (v : Occupancy) (x : Man) (k : ℕ) : Type 0 where
  pub stands : same_kind x.kind King ≡ false → (s : ℕ) × (king_square p.men p.turn ≡ Some s)
      × ((men : List (Option Man)) → DescribesMen p.men men (other p.turn) v
      → is_reached men s (other p.turn) ≡ false)
  pub goes : same_kind x.kind King ≡ true → (like_men_paralyse rule ≡ false)
      × ((men : List (Option Man)) → DescribesMen p.men men (other p.turn) v
      → is_reached men k (other p.turn) ≡ false)
