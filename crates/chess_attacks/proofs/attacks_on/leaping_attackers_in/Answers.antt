use Rattle.std.proofs.Common.{rules}
use Rattle.chess_attacks.proofs.attacks.Attacking.{leapers_are}
use Rattle.chess_attacks.proofs.attacks_on.leaping_attackers_in.Goals as goal

pub returns : goal.returns
returns c = search (rules, leapers_are, c.leaping_attackers.ensures, c.leaping_attackers-2.ensures, c.leaping_attackers-3.ensures)
