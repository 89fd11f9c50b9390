-- What decides attacks after a move, without playing it (own).
use Rattle.std.specs.Prelude.{◌≡◌, ◌<◌, ◌==◌, ℕ, Bool, true, ◌&&◌, not, List, Option, Some, if◌then◌else◌}
use Rattle.std.specs.Int.{bit_at, bit_not, w64}
use Rattle.std.specs.Int.Bits.{bit_and, bit_or}
use Rattle.chess_core.specs.Position.{Position, is_of_colour, king_square, man_on, other, same_kind}
use Rattle.chess_core.specs.Squares.{is_square}
use Rattle.chess_core.specs.ties.Words.{squares_of, word}
use Rattle.chess_core.specs.declared.man.Colour.{Colour}
use Rattle.chess_core.specs.declared.man.Kind.{Kind}
use Rattle.chess_core.specs.declared.man.Kind.TheVariants.{King}
use Rattle.chess_core.specs.declared.man.Man.{Man}
use Rattle.chess_core.specs.declared.man.Move.{Move}
use Rattle.chess_attacks.specs.ties.Lines.{occupied_squares}
use Rattle.chess_rules.specs.Play.{arriving_man, is_castling}
use Rattle.chess_attacks.specs.RuleSet.{RuleSet, captures_are_reborn}
use Rattle.chess_attacks.specs.declared.occupancy.Occupancy.{Occupancy}

-- the move of x does no more than move it and remove at most one captured man
abbrev pub is_simple : RuleSet → Man → Move → Bool → Bool
is_simple rule x m captures = not (is_castling x m) && not (captures_are_reborn rule && captures)

-- x arrives on s by the move m as a man of kind k
abbrev pub is_arriving_as : Man → Move → Kind → ℕ → Bool
is_arriving_as x m k s = same_kind (arriving_man x m.promo).kind k && is_square (Some m.to) s

-- the squares of the men of kind k of the mover after x has made the move m
abbrev pub own_after : List (Option Man) → Occupancy → Man → Move → Kind → ℕ
own_after men v x m k =
    bit_or (bit_and (bit_and (squares_of men x.colour k) v.standing)
    (bit_not w64 (word (is_square (Some m.from))))) (word (is_arriving_as x m k))

-- v describes `men`, the men after the move m of x: x's side as in `own_after`, the other side where it
-- stood
pub record DescribesMenAfter (before men : List (Option Man)) (x : Man) (m : Move)
    (v : Occupancy) : Type 0 where
  pub occupied : v.occupied ≡ occupied_squares men
  pub own : (k : Kind) → own_after before v x m k ≡ squares_of men x.colour k
  pub others : (s : ℕ) → is_of_colour (man_on men s) (other x.colour) ≡ true
      → man_on men s ≡ man_on before s

-- each square of w holds a man of the colour other than c
pub record AreOthers (men : List (Option Man)) (c : Colour) (w : ℕ) : Type 0 where
  pub side : (s : ℕ) → s < 64 → (bit_at w s == 1) ≡ true
      → is_of_colour (man_on men s) (other c) ≡ true

-- the square of the mover's king after x has moved
abbrev pub king_after : Position → Man → Move → Option ℕ
king_after p x m = if same_kind x.kind King then Some m.to else king_square p.men p.turn
