use Rattle.chess_reach.proofs.Resting.{knights_home}
use Rattle.chess_reach.proofs.ways.knight_homes.Goals as goal

pub returns : goal.returns
returns c s h small on home =
    c.by_shade.ensures s h small on (knights_home c.args.colour s h c.by_side-light.result c.by_side-dark.result c.by_side-light.ensures c.by_side-dark.ensures home)
