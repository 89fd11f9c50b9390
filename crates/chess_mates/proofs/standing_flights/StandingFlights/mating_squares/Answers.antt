use Rattle.chess_mates.proofs.Chess.{off_left, off_right, rules}
use Rattle.chess_mates.proofs.StandingFlights.{no_mate_left}
use Rattle.chess_flights.proofs.QuietFilter.{all_left}
use Rattle.chess_mates.proofs.standing_flights.StandingFlights.mating_squares.Goals as goal

pub returns-then-flights-eq0 : goal.returns-then-flights-eq0
returns-then-flights-eq0 g c = λ m from small off. all_left m.to small off

pub returns-in-Some : goal.returns-in-Some
returns-in-Some g c = λ m from small off.
    let left = c.taking_squares.ensures m.to small (search (rules, off_left)) in
    let simply = c.unsimple_squares.ensures m from small (search (rules, off_right)) in
    let kept = c.lasting_flights-flights.ensures left.0 left.1.small left.1.on in
    no_mate_left _ _ m _ _ left.0 c.requires.well_formed (search (rules, from)) simply left.1 (rw (← from) at kept)

pub returns-in-None : goal.returns-in-None
returns-in-None g c = λ m from small off. all_left m.to small off
