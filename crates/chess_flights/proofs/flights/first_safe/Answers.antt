use Rattle.chess_flights.proofs.Chess.{rules, taken_on}
use Rattle.chess_flights.proofs.Hurdles.{rest_here, rest_on}
use Rattle.chess_flights.proofs.flights.first_safe.Goals as goal

pub loop-square-preserved : goal.loop-square-preserved
loop-square-preserved c =
    search (rules, rest_on, taken_on, c.pop_first.ensures.taken, c.in-Some.ensures.taken, c.has_attacker_in.ensures, c.occupancy_with.ensures)

pub returns-then-not-has_attacker_in-clause-safe : goal.returns-then-not-has_attacker_in-clause-safe
returns-then-not-has_attacker_in-clause-safe c = search (rules, rest_here, c.in-Some.ensures.taken, c.has_attacker_in.ensures, c.occupancy_with.ensures)
