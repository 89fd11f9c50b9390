use Rattle.chess_attacks.proofs.Chess.{four, rules}
use Rattle.chess_attacks.proofs.lines.diagonal_rides.Goals as goal

pub returns : goal.returns
returns c = search (rules, four, c.ride.ensures, c.ride-2.ensures, c.ride-3.ensures, c.ride-4.ensures)
