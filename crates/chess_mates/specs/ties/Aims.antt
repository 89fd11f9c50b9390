-- Moves whose man arrives where it would attack the enemy king (own).
use Rattle.std.specs.Prelude.{ℕ, Bool, false, Option, Some, None}
use Rattle.chess_core.specs.Position.{Position, man_on, other}
use Rattle.chess_core.specs.declared.man.Man.{Man}
use Rattle.chess_core.specs.declared.man.Move.{Move}
use Rattle.chess_flights.specs.ties.Checks.{enemy, may_check_from}

-- this man, if there is one, would attack the enemy king from t as a man of the side to move, on the
-- board as it is
abbrev pub aims_with : Position → Option Man → ℕ → Bool
aims_with p None t = false
aims_with p (Some x) t = may_check_from p.men (other p.turn) (enemy (other p.turn) x.kind) t

-- the moving man would attack the enemy king from its arrival, on the board before the move
unfoldable pub aims_at_king : Position → Move → Bool
aims_at_king p m = aims_with p (man_on p.men m.from) m.to
