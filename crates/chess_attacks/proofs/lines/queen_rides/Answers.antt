use Rattle.chess_attacks.proofs.Chess.{both_lists, rules}
use Rattle.chess_attacks.proofs.lines.queen_rides.Goals as goal

pub returns : goal.returns
returns c = search (rules, both_lists, c.straight_rides.ensures, c.diagonal_rides.ensures)
