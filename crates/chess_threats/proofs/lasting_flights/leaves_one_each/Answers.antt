use Rattle.chess_threats.proofs.Chess.{rules, taken_on}
use Rattle.chess_threats.proofs.lasting_flights.leaves_one_each.Goals as goal

pub loop-to-preserved : goal.loop-to-preserved
loop-to-preserved c = search (rules, taken_on, c.in-Some-first_left.ensures, c.pop_first.ensures.taken)
