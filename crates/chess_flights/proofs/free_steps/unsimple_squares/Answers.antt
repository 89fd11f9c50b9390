use Rattle.chess_flights.proofs.Chess.{rules}
use Rattle.chess_flights.proofs.QuietFilter.{goes_simply}
use Rattle.chess_flights.proofs.free_steps.unsimple_squares.Goals as goal

pub returns : goal.returns
returns g c = λ m from small off.
    goes_simply _ _ _ m c.only.result c.special_arrivals.result c.if-captures_are_reborn.captures (search rules)
    (c.special_arrivals.ensures m from small) (search rules) small off
