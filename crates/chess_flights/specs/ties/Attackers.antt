-- The men of a side, kind by kind (own).
use Rattle.std.specs.Prelude.{◌≡◌, ◌<◌, ◌==◌, ◌||◌, ℕ, Bool, true, false, not, List, Option, Some}
use Rattle.std.specs.Int.{bit_at}
use Rattle.chess_core.specs.Position.{is_fairy, man_on}
use Rattle.chess_core.specs.declared.man.Kind.{Kind}
use Rattle.chess_core.specs.declared.man.Kind.TheVariants.{King, Pawn}
use Rattle.chess_core.specs.declared.man.Man.{Man}
use Rattle.chess_flights.specs.declared.attackers.Attackers.{Attackers}
use Rattle.chess_flights.specs.ties.ByKind.{value_for}

-- the squares of the men of a kind
abbrev pub squares_for : Attackers → Kind → ℕ
squares_for a k = value_for a.squares k

-- x on s is one of these men, by their squares
pub record IsAttacker (a : Attackers) (x : Man) (s : ℕ) : Type 0 where
  pub small : s < 64
  pub mine : x.colour ≡ a.colour
  pub on : (bit_at (squares_for a x.kind) s == 1) ≡ true

-- these are exactly the men of their colour
pub record AreAttackers (men : List (Option Man)) (a : Attackers) : Type 0 where
  pub stand : (s : ℕ) (x : Man) → s < 64 → man_on men s ≡ Some x → x.colour ≡ a.colour
      → IsAttacker a x s
  pub alone : (s : ℕ) (x : Man) → IsAttacker a x s → man_on men s ≡ Some x

-- a pawn may promote to this kind (FIDE Laws 3.7.5.1); to a fairy man only with b (own)
abbrev pub is_promotion : Bool → Kind → Bool
is_promotion b King = false
is_promotion b Pawn = false
is_promotion b k = not (is_fairy k) || b
