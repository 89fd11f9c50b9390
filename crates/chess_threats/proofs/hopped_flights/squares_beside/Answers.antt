use Rattle.chess_threats.proofs.Chess.{arith, cases_eq, eq-eqb, ne_eqb, off_left, off_right, word_has}
use Rattle.chess_flights.proofs.Bitboards.{denied_on}
use Rattle.chess_threats.proofs.hopped_flights.squares_beside.Goals as goal

pub returns : goal.returns
returns c = λ b small off. grind (arith, cases_eq b c.args.king, denied_on, eq-eqb, ne_eqb, off_left, off_right, word_has, c.king_leaps.ensures, c.only.ensures, c.only-2.ensures)
