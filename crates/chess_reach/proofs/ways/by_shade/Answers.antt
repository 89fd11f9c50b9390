use Rattle.chess_reach.proofs.Resting.{by_shades}
use Rattle.chess_reach.proofs.ways.by_shade.Goals as goal

pub returns : goal.returns
returns c s h small on home = by_shades c.args.squares c.args.light c.args.dark _ _ s h small c.if_any.ensures c.if_any-2.ensures on home
