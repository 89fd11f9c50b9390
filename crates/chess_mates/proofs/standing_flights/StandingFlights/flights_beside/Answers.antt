use Rattle.chess_mates.proofs.Chess.{arith, false≢true, off_zero, rules, sym, ◌∙◌}
use Rattle.chess_mates.proofs.StandingFlights.{lines_beside}
use Rattle.chess_mates.proofs.standing_flights.StandingFlights.flights_beside.Goals as goal

pub returns-then-squares-eq0 : goal.returns-then-squares-eq0
returns-then-squares-eq0 c = λ f small on.
    lines_beside _ _ _ _ _ _ c.straight_lines.ensures c.diagonal_lines.ensures (search rules) c.if-squares-eq0.true
    (omega arith) (omega arith) f small (search rules)

pub returns : goal.returns
returns c = λ f small on. absurd (false≢true (sym (off_zero f) ∙ on))
