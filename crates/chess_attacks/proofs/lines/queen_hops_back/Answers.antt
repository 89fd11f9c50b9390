use Rattle.chess_attacks.proofs.Chess.{both_lists, rules}
use Rattle.chess_attacks.proofs.lines.queen_hops_back.Goals as goal

pub returns : goal.returns
returns c = search (rules, both_lists, c.straight_hops_back.ensures, c.diagonal_hops_back.ensures)
