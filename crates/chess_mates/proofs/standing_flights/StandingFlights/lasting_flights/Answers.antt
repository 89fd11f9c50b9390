use Rattle.chess_mates.proofs.Chess.{arith, inl, inr, rules}
use Rattle.chess_mates.proofs.standing_flights.StandingFlights.lasting_flights.Goals as goal

pub returns-then-contains : goal.returns-then-contains
returns-then-contains g c = λ f small on.
    let both = c.flights_beside.ensures f small on in
    c.requires.flights.left c.args.from f (omega arith) (inr both.1) small both.0

pub returns : goal.returns
returns g c = λ f small on. c.requires.flights.left c.args.from f (omega arith) (inl (search rules)) small on
