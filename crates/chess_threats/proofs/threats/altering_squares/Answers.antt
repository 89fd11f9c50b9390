use Rattle.chess_threats.proofs.Chess.{arith, rules}
use Rattle.chess_threats.proofs.PlainMoves.{pawn_mere}
use Rattle.chess_threats.proofs.threats.altering_squares.Goals as goal

pub returns-then-is : goal.returns-then-is
returns-then-is c = record {
  mere = λ m from to goes off. pawn_mere _ _ m (omega arith) to _ _ c.side.ensures c.side-2.ensures _ (rw c.crossed.ensures at c.only.ensures) (rw from goes)
      (search rules) off;
}
