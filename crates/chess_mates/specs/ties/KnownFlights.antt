-- What is known of the flights of the side to move (own).
use Rattle.std.specs.Prelude.{◌≡◌, ⊤, ℕ, true, false, List, Option, None}
use Rattle.chess_core.specs.Position.{Position, other}
use Rattle.chess_core.specs.declared.man.Man.{Man}
use Rattle.chess_core.specs.declared.man.Move.{Move}
use Rattle.chess_mates.specs.declared.flights_after.Flights.{Flights}
use Rattle.chess_mates.specs.declared.flights_after.Flights.TheVariants.{Left, NoneLeft, Unknown}
use Rattle.chess_attacks.specs.Attacks.{in_check}
use Rattle.chess_rules.specs.Legal.{is_legal}
use Rattle.chess_rules.specs.Play.{capture_square}
use Rattle.chess_attacks.specs.RuleSet.{RuleSet}
use Rattle.chess_attacks.specs.ties.Outward.{is_reached}
use Rattle.chess_rules.specs.ties.Filtering.{is_of_others}
use Rattle.chess_attacks.specs.ties.Occupancy.{DescribesMen, occupancy_after}
use Rattle.chess_flights.specs.ties.Flights.{has_flight}

-- the king of the side to move has no legal move if it is in check
pub record IsFlightless (rule : RuleSet) (p : Position) : Type 0 where
  pub stays : in_check rule p.men p.turn ≡ true → (m : Move) → is_of_others p m ≡ false
      → is_legal rule p m ≡ false

-- what is known of the flights of the side to move is true
abbrev pub IsKnown : RuleSet → Position → Flights → Type 0
IsKnown rule p Left = has_flight rule p ≡ true
IsKnown rule p NoneLeft = IsFlightless rule p
IsKnown rule p Unknown = ⊤

-- no enemy of the side to move reaches its king x on t after x has stepped there from k
pub record IsUnreached (p : Position) (x : Man) (k t : ℕ) : Type 0 where
  pub none : (men : List (Option Man))
      → DescribesMen p.men men (other p.turn) (occupancy_after p.men k
      (capture_square p x (record { from = k; to = t; promo = None })) t)
      → is_reached men t (other p.turn) ≡ false
