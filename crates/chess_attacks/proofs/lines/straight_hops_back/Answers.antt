use Rattle.chess_attacks.proofs.Chess.{four, rules}
use Rattle.chess_attacks.proofs.lines.straight_hops_back.Goals as goal

pub returns : goal.returns
returns c = search (rules, four, c.hop_back.ensures, c.hop_back-2.ensures, c.hop_back-3.ensures, c.hop_back-4.ensures)
