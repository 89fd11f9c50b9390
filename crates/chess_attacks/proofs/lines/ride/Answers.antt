use Rattle.chess_attacks.proofs.Chess.{rules}
use Rattle.chess_attacks.proofs.rays.Ahead.{ordered}
use Rattle.chess_attacks.proofs.rays.Stopping.{ride_is}
use Rattle.chess_attacks.proofs.lines.ride.Goals as goal

pub returns : goal.returns
returns c = λ men held.
    search (rules, ride_is, ordered, c.show_below_64.ensures, c.ray-ray.ensures, held, c.up_to_first.ensures)
