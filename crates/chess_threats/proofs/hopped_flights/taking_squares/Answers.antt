use Rattle.chess_threats.proofs.Chess.{arith, rules}
use Rattle.chess_threats.proofs.HoppedFlights.{untaken}
use Rattle.chess_threats.proofs.hopped_flights.taking_squares.Goals as goal

pub returns : goal.returns
returns c = untaken c.args.hurdles c.args.flight c.king_leaps.result c.only.result c.reach_to.result (omega arith) c.king_leaps.ensures
    (search (rules, c.only.ensures)) (omega arith) (search (rules, c.reach_to.ensures))
