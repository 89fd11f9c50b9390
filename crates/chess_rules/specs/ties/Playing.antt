-- What must hold before a move is made on the board (own).
use Rattle.std.specs.Prelude.{ℕ, true, false, List, Option, Some, None, IsSome, ◌≡◌}
use Rattle.chess_core.specs.Position.{Position, man_on, with_man, without_man, same_kind, HasNoKing}
use Rattle.chess_core.specs.declared.man.Man.{Man}
use Rattle.chess_core.specs.declared.man.Move.{Move}
use Rattle.chess_core.specs.declared.man.Kind.TheVariants.{King}
use Rattle.chess_rules.specs.Play.{arriving_man, capture_square, corner, halfway, is_castling, without_at}

-- the rook on square a, if there is one, can be moved to square b
pub record CanCastle (men : List (Option Man)) (a b : ℕ) : Type 0 where
  pub free : man_on (without_man men a) b ≡ None
  pub no_king : (z : Man) → man_on men a ≡ Some z → same_kind z.kind King ≡ false

-- the calls of `Board` may make the move man by man
pub record CanMove (p : Position) (x : Man) (m : Move) : Type 0 where
  pub here : man_on p.men m.from ≡ Some x
  pub taken : (s : ℕ) → capture_square p x m ≡ Some s → IsSome (man_on (without_man p.men m.from) s)
  pub one_king : same_kind (arriving_man x m.promo).kind King ≡ true
      → HasNoKing (without_at (without_man p.men m.from) (capture_square p x m))
      (arriving_man x m.promo).colour
  pub rook : is_castling x m ≡ true → CanCastle
      (with_man (without_at (without_man p.men m.from) (capture_square p x m)) m.to
      (arriving_man x m.promo)) (corner m) (halfway m)
