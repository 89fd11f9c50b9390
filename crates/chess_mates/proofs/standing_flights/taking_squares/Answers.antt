use Rattle.chess_mates.proofs.Chess.{bit_at, cases_Bool, eqb-true, inl, inr, off_second, rules, sym, ◌==◌, ◌∙◌}
use Rattle.chess_flights.proofs.Hurdles.{found_on}
use Rattle.chess_mates.proofs.StandingFlights.{on_highest}
use Rattle.chess_flights.proofs.QuietFilter.{all_left}
use Rattle.chess_mates.proofs.standing_flights.taking_squares.Goals as goal
use Rattle.chess_attacks.proofs.rays.Firsts.{has_bit}

pub returns-in_default : goal.returns-in_default
returns-in_default c = λ t small off. all_left t small off

pub highest-requires : goal.highest-requires
highest-requires c =
    let found = found_on c.args.flights 0 c.in-Some.first (sym c.next_bit.ensures.value ∙ c.in-Some.is) in
    search (rules, has_bit c.args.flights _ (eqb-true _ 1 found.1))

pub returns : goal.returns
returns c =
    let found = found_on c.args.flights 0 c.in-Some.first (sym c.next_bit.ensures.value ∙ c.in-Some.is) in
    λ t small off. elim (cases_Bool (bit_at c.barring_squares.result t == 1)) [
      | inl on ↦ (
        c.highest.result,
        c.barring_squares-2.ensures c.args.flights t (search (rules, on_highest)) small
            (search (rules, off_second c.barring_squares.result)),
      )
      | inr away ↦ (c.in-Some.first, c.barring_squares.ensures _ t found.1 small away)
    ]
