use Rattle.chess_mates.proofs.Chess.{rules}
use Rattle.chess_flights.proofs.Fleeing.{has_flight_to}
use Rattle.chess_mates.proofs.Flightless.{flightless}
use Rattle.chess_mates.proofs.flights_after.flights_from.Goals as goal

pub returns-in-Some : goal.returns-in-Some
returns-in-Some g c =
    let near = c.open_squares-near.ensures c.args.m c.args.man c.requires.seen (search rules) (search rules) in
    has_flight_to g.R.Rules.rule c.args.board.now c.args.m c.args.man c.args.king c.requires.seen (search rules) _ c.covered_squares-covered.result
    (search (rules, c.covered_squares-covered.ensures)) c.in-Some.field-0 near (search (rules, c.in-Some.ensures.safe))

pub returns-then-are_all_seen : goal.returns-then-are_all_seen
returns-then-are_all_seen g c =
    let near = c.open_squares-near.ensures c.args.m c.args.man c.requires.seen (search rules) (search rules) in
    flightless g.R.Rules.rule c.args.board.now c.args.m c.args.man c.args.king c.requires.seen (search rules) _ c.covered_squares-covered.result
    (search (rules, c.covered_squares-covered.ensures)) near c.requires.mortal (search rules) (search (rules, c.first_safe.ensures.guarded))
