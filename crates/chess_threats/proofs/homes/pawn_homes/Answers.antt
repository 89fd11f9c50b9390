use Rattle.chess_threats.proofs.Chess.{on_left, on_right, rules, taken_map, taken_on}
use Rattle.chess_threats.proofs.homes.pawn_homes.Goals as goal

pub loop-from-preserved : goal.loop-from-preserved
loop-from-preserved c =
    search (rules, taken_on, taken_map, on_left, on_right, c.pop_first.ensures.taken, c.loop-from.invariant, c.pawn_home-home.ensures)
