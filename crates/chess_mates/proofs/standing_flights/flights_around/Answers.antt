use Rattle.chess_mates.proofs.Chess.{arith, rules}
use Rattle.chess_mates.proofs.StandingFlights.{flights_are}
use Rattle.chess_mates.proofs.standing_flights.flights_around.Goals as goal

pub returns : goal.returns
returns g c =
    flights_are _ _ _ c.free_steps-near.result _ c.rider_reach-ridden.result c.leapt_squares.result c.only.result _
    c.attackers_on-men.result c.requires.king c.requires.plain c.free_steps-near.ensures (search rules) (search rules) (omega arith)
    (search rules) c.attackers_on-men.ensures.men c.rider_reach-ridden.ensures.all c.leapt_squares.ensures.all
    (omega arith) (omega arith) (search rules)
