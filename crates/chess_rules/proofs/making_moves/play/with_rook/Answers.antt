use Rattle.chess_attacks.proofs.Basics.{rules}
use Rattle.chess_rules.proofs.making_moves.play.with_rook.Goals as goal

pub returns-then-is : goal.returns-then-is
returns-then-is c = search rules
