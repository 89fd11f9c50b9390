use Rattle.chess_attacks.proofs.Basics.{rules}
use Rattle.chess_rules.proofs.making_moves.undoing.lift_reborn.Goals as goal

pub returns : goal.returns
returns c = search rules
