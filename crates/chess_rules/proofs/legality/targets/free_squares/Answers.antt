use Rattle.chess_rules.proofs.Arrivals.{free_word}
use Rattle.chess_rules.proofs.legality.targets.free_squares.Goals as goal

pub returns : goal.returns
returns c = free_word c.args.board.now.men c.args.colour c.side.result c.squares.result c.side.ensures (rw c.other.ensures at c.squares.ensures.word)
