-- Flights: the squares where a king may go (a composers' word; the moves are those that the Laws allow).
use Rattle.std.specs.Prelude.{◌≡◌, ◌<◌, ℕ, Bool, true, false, ◌&&◌, ◌==◌, not, List, Option, Some, None, is_some}
use Rattle.std.specs.Int.{bit_at, bit_not, w64}
use Rattle.std.specs.Int.Bits.{bit_and, bit_or}
use Rattle.chess_core.specs.Position.{Position, king_square, man_on, other, same_kind}
use Rattle.chess_core.specs.Squares.{is_square, some_square}
use Rattle.chess_core.specs.WellFormed.{IsWellFormed}
use Rattle.chess_core.specs.ties.Words.{word}
use Rattle.chess_core.specs.declared.man.Colour.{Colour}
use Rattle.chess_core.specs.declared.man.Kind.TheVariants.{King}
use Rattle.chess_core.specs.declared.man.Man.{Man}
use Rattle.chess_core.specs.declared.man.Move.{Move}
use Rattle.chess_rules.specs.Legal.{is_arrival_free, is_legal, is_pseudo_legal}
use Rattle.chess_rules.specs.Play.{capture_square}
use Rattle.chess_attacks.specs.Reaches.{reaches_as}
use Rattle.chess_attacks.specs.RuleSet.{RuleSet, captures_are_reborn}
use Rattle.chess_attacks.specs.ties.Outward.{is_reached}
use Rattle.chess_attacks.specs.ties.Occupancy.{DescribesMen, occupancy_after}
use Rattle.chess_rules.specs.ties.Exposure.{is_simple}
use Rattle.chess_attacks.specs.declared.occupancy.Occupancy.{Occupancy}

-- the king on this square, if there is one, may go to t
abbrev pub is_flight_at : RuleSet → Position → Option ℕ → ℕ → Bool
is_flight_at rule p None t = false
is_flight_at rule p (Some k) t = is_legal rule p (record { from = k; to = t; promo = None })

-- the king of the side to move may go to t
unfoldable pub is_flight : RuleSet → Position → ℕ → Bool
is_flight rule p t = is_flight_at rule p (king_square p.men p.turn) t

-- the side to move has a flight
unfoldable pub has_flight : RuleSet → Position → Bool
has_flight rule p = some_square (is_flight rule p)

-- a king of colour c on k may step to t, attacked or not: no man of its own and no king is there, and in
-- Circe, where a captured man may be reborn, nobody
unfoldable pub is_open : RuleSet → List (Option Man) → Colour → ℕ → ℕ → Bool
is_open rule men c k t =
    reaches_as men c King k t && is_arrival_free c (man_on men t)
    && not (captures_are_reborn rule && is_some (man_on men t))

-- the king of colour c on k may step to each square of w, attacked or not
pub record AreOpen (rule : RuleSet) (men : List (Option Man)) (c : Colour) (k w : ℕ) : Type 0 where
  pub inside : (t : ℕ) → t < 64 → (bit_at w t == 1) ≡ true → is_open rule men c k t ≡ true

-- after a move by x, not a king, the king of colour c on k may step to exactly the squares of w, attacked
-- or not; in Circe perhaps to others
pub record AreSteps (rule : RuleSet) (men : List (Option Man)) (x : Man) (c : Colour)
    (k w : ℕ) : Type 0 where
  pub inside : (t : ℕ) → t < 64 → (bit_at w t == 1) ≡ true → is_open rule men c k t ≡ true
  pub outside : same_kind x.kind King ≡ false → captures_are_reborn rule ≡ false → (t : ℕ) → t < 64
      → (bit_at w t == 1) ≡ false → is_open rule men c k t ≡ false

-- x may make the simple move m, and the enemy king is on k; if x is a king, it doesn't arrive next to k
pub record IsSeenFrom (rule : RuleSet) (p : Position) (m : Move) (x : Man) (k : ℕ) : Type 0 where
  pub well_formed : IsWellFormed p
  pub pseudo : is_pseudo_legal rule p m ≡ true
  pub here : man_on p.men m.from ≡ Some x
  pub apart : same_kind x.kind King ≡ true → reaches_as p.men (other p.turn) King k m.to ≡ false
  pub simple : is_simple rule x m (is_some (capture_square p x m)) ≡ true
  pub king : king_square p.men (other p.turn) ≡ Some k

-- the occupancy after a man has gone from a to b, the man on o has left the board, and the enemy king is
-- lifted from k; the moved man isn't among the standing men
abbrev pub occupancy_lifted : List (Option Man) → ℕ → Option ℕ → ℕ → ℕ → Occupancy
occupancy_lifted men a o b k = record {
  occupied = bit_and (occupancy_after men a o b).occupied (bit_not w64 (word (is_square (Some k))));
  standing = bit_and (occupancy_after men a o b).standing (bit_not w64 (word (is_square (Some a))));
}

-- the occupancy after the lifted king is put on t, whoever was there
abbrev pub occupancy_with : Occupancy → ℕ → Occupancy
occupancy_with v t = record {
  occupied = bit_or v.occupied (word (is_square (Some t)));
  standing = bit_and v.standing (bit_not w64 (word (is_square (Some t))));
}

-- t is a square of w, and no man of colour c other than the moved one reaches the king there
pub record IsSafe (before : List (Option Man)) (c : Colour) (v : Occupancy) (w t : ℕ) : Type 0 where
  pub small : t < 64
  pub here : (bit_at w t == 1) ≡ true
  pub unreached : (men : List (Option Man)) → DescribesMen before men c (occupancy_with v t)
      → is_reached men t c ≡ false

-- the occupancy after the king lifted from k is put on t; the king isn't among the standing men
abbrev pub occupancy_stepped : Occupancy → ℕ → ℕ → Occupancy
occupancy_stepped v k t = record {
  occupied = (occupancy_with v t).occupied;
  standing = bit_and (occupancy_with v t).standing (bit_not w64 (word (is_square (Some k))));
}

-- after the step from k to t no man of the stepping side but the king reaches s, where the mover, of colour
-- c, has its king
pub record IsQuietTo (before : List (Option Man)) (c : Colour) (v : Occupancy)
    (k t s : ℕ) : Type 0 where
  pub unreached : (men : List (Option Man))
      → DescribesMen before men (other c) (occupancy_stepped v k t)
      → is_reached men s (other c) ≡ false

-- on each square of w a man of colour c other than the moved one reaches the king there
pub record AreUnsafe (before : List (Option Man)) (c : Colour) (v : Occupancy)
    (w : ℕ) : Type 0 where
  pub reached : (t : ℕ) → t < 64 → (bit_at w t == 1) ≡ true → (men : List (Option Man))
      → DescribesMen before men c (occupancy_with v t) → is_reached men t c ≡ true
