use Rattle.chess_reach.proofs.Planning.{held_around}
use Rattle.chess_reach.proofs.planned_squares.unheld_squares.Goals as goal

pub returns : goal.returns
returns c t small on = held_around _ t _ _ c.king_leaps.ensures small on
