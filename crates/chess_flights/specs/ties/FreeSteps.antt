-- Moves that only bring a man to a square, on a board without hoppers (own).
use Rattle.std.specs.Prelude.{◌≡◌, ℕ, true, false, List, Option, Some, None, ◌<◌}
use Rattle.chess_core.specs.Position.{Position, man_on}
use Rattle.chess_core.specs.declared.man.Man.{Man}
use Rattle.chess_core.specs.declared.man.Move.{Move}
use Rattle.chess_rules.specs.Play.{capture_square, is_castling}
use Rattle.chess_attacks.specs.RuleSet.{RuleSet, captures_are_reborn}
use Rattle.chess_rules.specs.ties.Targets.{is_promoting}
use Rattle.chess_core.specs.Steps.{gait_of, is_hopper}

-- x neither castles nor promotes, and captures only on its arrival, in Circe not at all
pub record GoesSimply (rule : RuleSet) (p : Position) (x : Man) (m : Move) : Type 0 where
  pub castling : is_castling x m ≡ false
  pub captures : (s : ℕ) → capture_square p x m ≡ Some s → s ≡ m.to
  pub mere : captures_are_reborn rule ≡ true → capture_square p x m ≡ None
  pub unpromoted : is_promoting x m.to ≡ false

-- no hopper is on the board
pub record NoneHops (men : List (Option Man)) : Type 0 where
  pub none : (s : ℕ) (x : Man) → s < 64 → man_on men s ≡ Some x
      → is_hopper (gait_of x.kind) ≡ false
