use Rattle.chess_attacks.proofs.Chess.{both_lists, flat_steps, rides, steep_steps}
use Rattle.chess_attacks.proofs.lines.knight_rides.Goals as goal

pub returns : goal.returns
returns c = λ men held.
    both_lists (rides men c.args.from) steep_steps flat_steps c.steep_rides.result c.flat_rides.result (c.steep_rides.ensures men held)
    (c.flat_rides.ensures men held)
