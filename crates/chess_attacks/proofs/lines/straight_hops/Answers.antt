use Rattle.chess_attacks.proofs.Chess.{four, rules}
use Rattle.chess_attacks.proofs.lines.straight_hops.Goals as goal

pub returns : goal.returns
returns c = search (rules, four, c.hop.ensures, c.hop-2.ensures, c.hop-3.ensures, c.hop-4.ensures)
