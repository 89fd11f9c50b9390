use Rattle.chess_threats.proofs.Chess.{arith, off_left, off_right, rules}
use Rattle.chess_threats.proofs.PlainMoves.{king_plain, man_plain, pawn_plain}
use Rattle.chess_threats.proofs.threats.special_squares.Goals as goal

pub returns-then-is : goal.returns-then-is
returns-then-is c = record {
  plain = λ m from to goes off. pawn_plain _ _ m (omega arith) to _ (rw c.crossed.ensures at c.only.ensures) (search rules)
      (off_left _ _ m.to off) (c.contested_squares.ensures m from to goes (off_right c.only.result _ m.to off));
}

pub returns-then-is-2 : goal.returns-then-is-2
returns-then-is-2 c = record {
  plain = λ m from to goes off. king_plain _ _ m (omega arith) to _ (rw from c.king_leaps.ensures) (omega arith) (search rules) off;
}

pub returns : goal.returns
returns c = record { plain = λ m from to goes off. man_plain _ _ m (omega arith) to (search rules) (search rules) }
