use Rattle.chess_attacks.proofs.Basics.{rules}
use Rattle.chess_rules.proofs.legality.exposure.own_squares_after.Goals as goal

pub returns : goal.returns
returns c = search rules
