use Rattle.chess_attacks.proofs.Chess.{in_check, rules}
use Rattle.chess_attacks.proofs.rules.in_check.Goals as goal

pub returns-in-Some : goal.returns-in-Some
unfolding in_check
returns-in-Some g c = search rules
