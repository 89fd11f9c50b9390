use Rattle.chess_threats.proofs.Chess.{arith}
use Rattle.chess_threats.proofs.LastingFlights.{left_on}
use Rattle.chess_threats.proofs.risk.left_squares.Goals as goal

pub returns : goal.returns
returns c = λ f small on.
    left_on c.args.near c.unblocked_reach.result c.only.result c.args.to f c.args.man c.unblocked_reach.ensures (omega arith) (omega arith) c.only.ensures small on
