use Rattle.chess_threats.proofs.HomeSquares.{all_homes}
use Rattle.chess_threats.proofs.homes.home_squares.Goals as goal

pub returns : goal.returns
returns c = all_homes _ _ c.for_each_kind.result _ c.for_each_kind.ensures c.union_of.ensures.all
