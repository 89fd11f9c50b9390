-- Flights (a composers' word) that the other side can't take with one move, whoever else is on the board
-- (own).
use Rattle.std.specs.Prelude.{◌≡◌, ◌≢◌, ◌<◌, ◌==◌, ℕ, Bool, true, false}
use Rattle.std.specs.Int.{bit_at}
use Rattle.std.specs.List.{list_any}
use Rattle.chess_core.specs.Position.{Position, is_man, is_of_colour, man_on, other, same_kind}
use Rattle.chess_core.specs.SquareNames.{e1, e8}
use Rattle.chess_core.specs.Steps.{queen_steps}
use Rattle.chess_core.specs.declared.man.Kind.{Kind}
use Rattle.chess_core.specs.declared.man.Kind.TheVariants.{King}
use Rattle.chess_core.specs.declared.man.Man.{Man}
use Rattle.chess_core.specs.declared.man.Move.{Move}
use Rattle.chess_flights.specs.declared.attackers.Attackers.{Attackers}
use Rattle.chess_threats.specs.declared.lasting_flights.OpenTargets.{OpenTargets}
use Rattle.chess_flights.specs.ties.Attackers.{IsAttacker, is_promotion, squares_for}
use Rattle.chess_flights.specs.ties.ByKind.{value_for}
use Rattle.chess_attacks.specs.Reaches.{leaps}
use Rattle.chess_attacks.specs.ties.Lines.{AreReached}
use Rattle.chess_rules.specs.ties.Targets.{is_promoting, may_arrive}
use Rattle.chess_flights.specs.ties.Approaches.{counts_as, MayBecome, IsLeft}

-- w holds all squares that these men reach on some board
pub record AreGuarded (a : Attackers) (w : ℕ) : Type 0 where
  pub guards : (s : ℕ) (x : Man) → IsAttacker a x s → AreReached x s w

-- w holds all squares to which x on s may go on some board, by `may_arrive`
pub record AreTargets (x : Man) (s w : ℕ) : Type 0 where
  pub inside : (p : Position) (t : ℕ) → t < 64 → may_arrive p x s t ≡ true
      → (bit_at w t == 1) ≡ true

-- w holds the targets of the men of this kind
abbrev pub AreTargetsOf : Attackers → Kind → ℕ → Type 0
AreTargetsOf a k w =
    (s : ℕ) → s < 64 → (bit_at (squares_for a k) s == 1) ≡ true
    → AreTargets (record { colour = a.colour; kind = k }) s w

-- w holds the targets of the men of this kind, if r holds what they reach, and where a pawn with these
-- advances promotes to this kind
pub record AreKindTargets (a : Attackers) (advances : ℕ) (k : Kind) (r w : ℕ) : Type 0 where
  pub inside : ((s : ℕ) → s < 64 → (bit_at (squares_for a k) s == 1) ≡ true
      → AreReached (record { colour = a.colour; kind = k }) s r) → AreTargetsOf a k w
  pub promoted : counts_as k ≡ k → is_promotion a.fairy_promotions k ≡ true → (x : Man) (t : ℕ)
      → t < 64 → is_promoting x t ≡ true → (bit_at advances t == 1) ≡ true
      → (bit_at w t == 1) ≡ true

-- the targets of each kind hold the squares where x from s promotes to a man that counts as this kind
pub record ArePromoted (b : Bool) (o : OpenTargets) (x : Man) (s : ℕ) : Type 0 where
  pub inside : (p : Position) (z : Man) (t : ℕ) → t < 64 → may_arrive p x s t ≡ true
      → is_promoting x t ≡ true → MayBecome b x t z
      → (bit_at (value_for o.squares (counts_as z.kind)) t == 1) ≡ true

-- the targets of each of these men are among those for its kind, the targets of promoting pawns are among
-- those for what they become, and all that these men reach now is guarded
pub record AreOpenTargets (a : Attackers) (o : OpenTargets) : Type 0 where
  pub guards : AreGuarded a o.guarded
  pub targets : (s : ℕ) (x : Man) → IsAttacker a x s → AreTargets x s (value_for o.squares x.kind)
  pub promoted : (s : ℕ) (x : Man) → IsAttacker a x s → ArePromoted a.fairy_promotions o x s

-- wherever x goes from s, and whatever it becomes there, a square of w remains; and x can't castle
pub record LeavesOne (b : Bool) (w : ℕ) (x : Man) (s : ℕ) : Type 0 where
  pub left : (p : Position) (z : Man) (t : ℕ) → t < 64 → may_arrive p x s t ≡ true
      → MayBecome b x t z
      → (f : ℕ) × IsLeft w z t f
  pub away : same_kind x.kind King ≡ true → (s ≢ e1) × (s ≢ e8)

-- wherever any of these men goes, a square of w remains
pub record LeaveOne (a : Attackers) (w : ℕ) : Type 0 where
  pub leaves : (s : ℕ) (x : Man) → IsAttacker a x s → LeavesOne a.fairy_promotions w x s

-- squares next to k without a man of the mover, before and after the move, and without the enemy king
pub record AreNear (p : Position) (m : Move) (k w : ℕ) : Type 0 where
  pub next : (f : ℕ) → f < 64 → (bit_at w f == 1) ≡ true → list_any (leaps k f) queen_steps ≡ true
  pub arrival : (f : ℕ) → f < 64 → (bit_at w f == 1) ≡ true → f ≢ m.to
  pub own : (f : ℕ) → f < 64 → (bit_at w f == 1) ≡ true
      → is_of_colour (man_on p.men f) p.turn ≡ false
  pub king : (f : ℕ) → f < 64 → (bit_at w f == 1) ≡ true
      → is_man (man_on p.men f) (other p.turn) King ≡ false

-- these men can't take all squares of w with one move: one remains of those that they don't guard
pub record KeepsOne (a : Attackers) (w : ℕ) : Type 0 where
  pub squares : ℕ
  pub guarded : ℕ
  pub guards : AreGuarded a guarded
  pub leave : LeaveOne a squares
  pub within : (f : ℕ) → f < 64 → (bit_at squares f == 1) ≡ true
      → ((bit_at w f == 1) ≡ true) × ((bit_at guarded f == 1) ≡ false)
