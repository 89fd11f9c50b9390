-- The flights that the enemy king has now, and the moves that leave them (own).
use Rattle.std.specs.Prelude.{◌≡◌, ◌<◌, ◌==◌, ◌⊎◌, ℕ, true, false, Some}
use Rattle.std.specs.Int.{bit_at}
use Rattle.chess_core.specs.Position.{Position, king_square, man_on, other, same_kind, without_man}
use Rattle.chess_core.specs.Steps.{diagonal_steps, straight_steps}
use Rattle.chess_core.specs.declared.man.Kind.TheVariants.{Nightrider}
use Rattle.chess_core.specs.declared.man.Man.{Man}
use Rattle.chess_mates.specs.declared.standing_flights.StandingFlights.{StandingFlights}
use Rattle.chess_flights.specs.ties.Flights.{is_open}
use Rattle.chess_attacks.specs.RuleSet.{RuleSet}
use Rattle.chess_attacks.specs.ties.Lines.{is_on_some}
use Rattle.chess_attacks.specs.ties.Outward.{is_reached}
use Rattle.chess_flights.specs.ties.FreeSteps.{NoneHops}

-- no hopper is on the board, and the enemy king may step to f, attacked or not, where no man of the mover
-- but the one on a reaches it
pub record IsFlightBut (rule : RuleSet) (p : Position) (a f : ℕ) : Type 0 where
  pub king : ℕ
  pub stands : king_square p.men (other p.turn) ≡ Some king
  pub plain : NoneHops p.men
  pub way : is_open rule p.men (other p.turn) king f ≡ true
  pub unreached : is_reached (without_man (without_man p.men king) a) f p.turn ≡ false

-- the mover has no nightrider, and no queen's line leads from a to f
pub record IsBeside (p : Position) (a f : ℕ) : Type 0 where
  pub riders : (s : ℕ) (x : Man) → s < 64 → man_on p.men s ≡ Some x → x.colour ≡ p.turn
      → same_kind x.kind Nightrider ≡ false
  pub straight : is_on_some straight_steps a f ≡ false
  pub diagonal : is_on_some diagonal_steps a f ≡ false

-- each of the flights remains if a man leaves a square that no rider reaches, or one beside the flight
pub record AreStandingFlights (rule : RuleSet) (p : Position) (v : StandingFlights) : Type 0 where
  pub left : (a f : ℕ) → a < 64 → ((bit_at v.ridden a == 1) ≡ false) ⊎ IsBeside p a f → f < 64
      → (bit_at v.flights f == 1) ≡ true → IsFlightBut rule p a f
