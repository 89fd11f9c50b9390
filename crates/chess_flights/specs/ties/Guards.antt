-- What men reach over hurdles (own).
use Rattle.std.specs.Prelude.{◌≡◌, ◌<◌, ◌==◌, ◌&&◌, ℕ, Bool, true, not, List, Option}
use Rattle.std.specs.Int.{bit_at}
use Rattle.chess_core.specs.Steps.{gait_of, is_hopper, is_leaper as is_leaping}
use Rattle.chess_core.specs.declared.man.Gait.{Gait}
use Rattle.chess_core.specs.declared.man.Gait.TheVariants.{Leaper, Rider, Hopper}
use Rattle.chess_core.specs.declared.man.Kind.{Kind}
use Rattle.chess_core.specs.declared.man.Man.{Man}
use Rattle.chess_flights.specs.declared.attackers.Attackers.{Attackers}
use Rattle.chess_flights.specs.ties.Attackers.{IsAttacker}
use Rattle.chess_attacks.specs.Reaches.{reaches_as}
use Rattle.chess_attacks.specs.ties.Lines.{men_on}

-- x on s reaches t if exactly the squares of d are occupied
unfoldable pub reached_over : ℕ → Man → ℕ → ℕ → Bool
reached_over d x s t = reaches_as (men_on d) x.colour x.kind s t

-- w holds each square that x on s reaches over the hurdles d
pub record IsReached (d : ℕ) (x : Man) (s w : ℕ) : Type 0 where
  pub inside : (t : ℕ) → t < 64 → reached_over d x s t ≡ true → (bit_at w t == 1) ≡ true

-- men of this kind move along lines
abbrev pub is_rider : Kind → Bool
is_rider k = not (is_leaping (gait_of k)) && not (is_hopper (gait_of k))

-- men of this kind move by one step or leap
abbrev pub is_leaper : Kind → Bool
is_leaper k = is_leaping (gait_of k)

-- men of this kind have this gait
abbrev pub moves_as : Gait → Kind → Bool
moves_as Leaper = is_leaper
moves_as Rider = is_rider
moves_as Hopper = λ k. is_hopper (gait_of k)

-- x on s could reach a square of the region on some board
pub record IsNear (x : Man) (s region : ℕ) : Type 0 where
  pub square : ℕ
  pub small : square < 64
  pub on : (bit_at region square == 1) ≡ true
  pub men : List (Option Man)
  pub reaches : reaches_as men x.colour x.kind s square ≡ true

-- w holds each square that attackers of these kinds reach over the hurdles, if they could reach the
-- region on some board
pub record AreReached (d : ℕ) (a : Attackers) (region : ℕ) (kinds : Kind → Bool) (w : ℕ) : Type
    0 where
  pub reach : (s : ℕ) (x : Man) → IsAttacker a x s → kinds x.kind ≡ true → IsNear x s region
      → IsReached d x s w

-- x on one of the squares reaches t over the hurdles
pub record IsReachedFrom (d : ℕ) (x : Man) (squares t : ℕ) : Type 0 where
  pub from : ℕ
  pub small : from < 64
  pub on : (bit_at squares from == 1) ≡ true
  pub reaches : reached_over d x from t ≡ true

-- w holds the squares that men like x on these squares reach over the hurdles, and no others: men near the
-- region, if their kind counts
pub record IsKindReach (d region : ℕ) (counts : Kind → Bool) (x : Man) (squares w : ℕ) : Type
    0 where
  pub all : counts x.kind ≡ true → (s : ℕ) → s < 64 → (bit_at squares s == 1) ≡ true
      → IsNear x s region → IsReached d x s w
  pub alone : (t : ℕ) → t < 64 → (bit_at w t == 1) ≡ true → IsReachedFrom d x squares t

-- one of the attackers reaches t over the hurdles
pub record IsAttackedOver (d : ℕ) (a : Attackers) (t : ℕ) : Type 0 where
  pub from : ℕ
  pub man : Man
  pub stands : IsAttacker a man from
  pub reaches : reached_over d man from t ≡ true
