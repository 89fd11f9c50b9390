-- The squares from which a man may come to a square, on some board, and what an arrival leaves (own).
use Rattle.std.specs.Prelude.{◌≡◌, ℕ, ◌<◌, Bool, true, false, ◌==◌, List, Option, ◌≢◌}
use Rattle.std.specs.Int.{bit_at}
use Rattle.chess_core.specs.Position.{Position}
use Rattle.chess_core.specs.declared.man.Man.{Man}
use Rattle.chess_core.specs.declared.man.Colour.{Colour}
use Rattle.chess_core.specs.declared.man.Kind.{Kind}
use Rattle.chess_core.specs.declared.man.Kind.TheVariants.{Queen, Rook, Bishop}
use Rattle.chess_flights.specs.ties.Attackers.{is_promotion}
use Rattle.chess_attacks.specs.Reaches.{reaches_as, leaps}
use Rattle.chess_rules.specs.ties.Targets.{is_promoting, may_arrive}
use Rattle.std.specs.List.{list_any}
use Rattle.chess_core.specs.Steps.{pawn_capture_steps}

-- w holds each square from which this man, on some board, may go to one of the targets
pub record AreApproaches (x : Man) (targets w : ℕ) : Type 0 where
  pub approach : (p : Position) (s t : ℕ) → s < 64 → t < 64 → may_arrive p x s t ≡ true
      → (bit_at targets t == 1) ≡ true → (bit_at w s == 1) ≡ true

-- x may be z after arriving on t: itself, or on its last rank what a pawn may promote to; a fairy man
-- only if b
pub record MayBecome (b : Bool) (x : Man) (t : ℕ) (z : Man) : Type 0 where
  pub mine : z.colour ≡ x.colour
  pub same : is_promoting x t ≡ false → z.kind ≡ x.kind
  pub promoted : is_promoting x t ≡ true → is_promotion b z.kind ≡ true

-- w holds each square on which a pawn of colour c may promote to a man that reaches k on some board; to
-- a fairy man only if b
pub record ArePromotions (c : Colour) (b : Bool) (k w : ℕ) : Type 0 where
  pub inside : (x z : Man) (t : ℕ) (men : List (Option Man)) → x.colour ≡ c → t < 64
      → is_promoting x t ≡ true → MayBecome b x t z
      → reaches_as men z.colour z.kind t k ≡ true → (bit_at w t == 1) ≡ true

-- w holds each square from which x reaches t on some board
pub record AreApproached (x : Man) (t w : ℕ) : Type 0 where
  pub inside : (men : List (Option Man)) (s : ℕ) → s < 64
      → reaches_as men x.colour x.kind s t ≡ true
      → (bit_at w s == 1) ≡ true

-- the kind as which a promoted man counts: a queen reaches all that a rook and a bishop do
abbrev pub counts_as : Kind → Kind
counts_as Rook = Queen
counts_as Bishop = Queen
counts_as k = k

-- after x has arrived on t, f remains of the squares w: x is on another square and doesn't reach f on any
-- board
pub record IsLeft (w : ℕ) (x : Man) (t f : ℕ) : Type 0 where
  pub small : f < 64
  pub on : (bit_at w f == 1) ≡ true
  pub off : f ≢ t
  pub unreached : (men : List (Option Man)) → reaches_as men x.colour x.kind t f ≡ false

-- w holds each square from which a pawn of colour c captures on one of the targets
pub record AreCapturers (c : Colour) (targets w : ℕ) : Type 0 where
  pub capture : (s t : ℕ) → s < 64 → t < 64 → list_any (leaps s t) (pawn_capture_steps c) ≡ true
      → (bit_at targets t == 1) ≡ true → (bit_at w s == 1) ≡ true
