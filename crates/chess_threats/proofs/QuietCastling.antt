-- Castling gives no check if the rook doesn't reach the enemy king from its new square and the king leaves
-- no line to it.
use Rattle.chess_threats.proofs.Chess.{Bishop, Colour, Grasshopper, IsMade, IsWellFormed, Kind, Man, Move, Nightrider, Position, Rook, RuleSet, Some, Step, and_left, and_right, any_false, arith, eqb-true, false, false_by, halfway, in_check, is_castling, moves_on_fairy_lines, is_lined, is_man, is_on_fairy_line, is_on_some, is_reached, is_rider, is_blocking, king_square, king_there, knight_steps, man_on, may_check_from, may_expose, may_be_hurdle, or_from, other, position_after, queen_steps, reaches_as, refl, rules, some_square_false, straight-back, straight_steps, true, ℕ, ◌<◌, ◌==◌, ◌≡◌}
use Rattle.chess_attacks.proofs.rays.OpenBoard.{rides_on}
use Rattle.chess_flights.proofs.CastlingChecks.{castling_gives_no_check}
use Rattle.chess_flights.proofs.Standing.{not_mine, reach_none}

-- x castles in p; the enemy king, of colour c, is on k
module _ (rule : RuleSet) (p : Position) (x : Man) (m : Move) (c : Colour) (k : ℕ) (well : IsWellFormed p) (is : IsMade rule p x m)
    (castling : is_castling x m ≡ true) (small : k < 64) (king : king_square p.men c ≡ Some k) (enemy : x.colour ≡ other c)
    (calm : (s : ℕ) (z : Man) → s < 64 → man_on p.men s ≡ Some z → z.colour ≡ other c → reaches_as p.men z.colour z.kind s k ≡ false)
    (unseen : (j : Kind) → moves_on_fairy_lines j ≡ false → is_rider j ≡ true → reaches_as p.men c j k m.from ≡ false)
    (no_fairy : (j : Kind) → moves_on_fairy_lines j ≡ true → (s : ℕ) → s < 64 → is_man (man_on p.men s) (other c) j ≡ false)
    (half : halfway m < 64) (rook : is_on_some straight_steps k (halfway m) ≡ false) (untouched : may_check_from p.men c x m.to ≡ false) where
  no_lined : (j : Kind) → moves_on_fairy_lines j ≡ true → (t : ℕ) (d : Step) → is_lined p.men (other c) j k t d ≡ false
  no_lined j fairy t d = search (rules, and_right, and_left, some_square_false, no_fairy)

  unlined : (t : ℕ) → is_on_fairy_line p.men (other c) k t ≡ false
  unfolding is_on_fairy_line
  unlined t = or_from _ _ (any_false _ queen_steps (λ d. no_lined Grasshopper refl t d)) (any_false _ knight_steps (λ d. no_lined Nightrider refl t d))

  covered : may_expose p.men c m.from ≡ false
  unfolding may_expose is_blocking is_reached reaches_as
  covered =
      let apart : (k == m.from) ≡ false = false_by _ (λ e. grind (arith, eqb-true k m.from e, (king_there p.men c k king).1, is.here, not_mine x c enemy)) in
      grind (arith, king, some_square_false, reach_none p.men k c calm, apart, unseen Rook refl refl, unseen Bishop refl refl, unlined m.from)

  -- for castlings described by squares
  pub castles_quietly : in_check rule (position_after rule p m).men c ≡ false
  unfolding may_be_hurdle may_check_from reaches_as
  castles_quietly =
      castling_gives_no_check rule p x m well is castling c (not_mine x c enemy) covered (rw king (unlined m.to)) untouched
      (grind (arith, king, rides_on p.men k (halfway m) straight_steps, straight-back p.men (halfway m) k half small))
