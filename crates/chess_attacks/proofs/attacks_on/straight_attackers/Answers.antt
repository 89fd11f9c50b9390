use Rattle.chess_attacks.proofs.Basics.{rules}
use Rattle.chess_attacks.proofs.attacks.Attacking.{met, met_none}
use Rattle.chess_attacks.proofs.attacks_on.straight_attackers.Goals as goal

pub returns : goal.returns
returns c = search (rules, met, met_none)
