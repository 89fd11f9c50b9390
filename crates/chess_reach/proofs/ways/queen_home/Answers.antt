use Rattle.chess_reach.proofs.Resting.{queens_home}
use Rattle.chess_reach.proofs.ways.queen_home.Goals as goal

pub returns : goal.returns
returns c s h home = queens_home c.args.colour s h c.by_side.result c.by_side.ensures home
