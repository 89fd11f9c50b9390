use Rattle.chess_threats.proofs.Chess.{arith}
use Rattle.chess_threats.proofs.PlainMoves.{goes_uncontested, steps_uncontested}
use Rattle.chess_threats.proofs.threats.contested_squares.Goals as goal

pub returns-then-capturers_before-squares-eq0 : goal.returns-then-capturers_before-squares-eq0
returns-then-capturers_before-squares-eq0 c = λ m from to goes off.
    goes_uncontested _ _ m (omega arith) to _ _ (rw from c.pawn_advances.ensures) (rw from c.king_leaps-near.ensures) _ _ (rw from goes)
    (rw c.other-enemy.ensures at c.capturers_before.ensures) (rw c.other-enemy.ensures at c.squares.ensures.word)
    c.if-capturers_before-squares-eq0.true

pub returns : goal.returns
returns c = λ m from to goes off.
    steps_uncontested _ _ m (omega arith) to c.pawn_advances.result _ (rw from c.pawn_advances.ensures) (rw from c.king_leaps-near.ensures) (omega arith) off
