use Rattle.chess_rules.proofs.Chess.{before_by, returned_men, rules}
use Rattle.chess_rules.proofs.making_moves.undoing.go_back.Goals as goal

pub returns : goal.returns
unfolding before_by returned_men
returns c = search rules
