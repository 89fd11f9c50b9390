use Rattle.chess_threats.proofs.Chess.{off_left, off_right, rules}
use Rattle.chess_flights.proofs.QuietFilter.{is_decided, small_arrival}
use Rattle.chess_threats.proofs.quiet_steps.QuietSteps.squares_without_quiet_step.Goals as goal

pub returns : goal.returns
returns g c = λ m lawful from off.
    let small = small_arrival _ _ m c.requires.well_formed lawful in
    let quiet = rw (c.occupancy_without-occupancy.ensures, ← from) at c.are_quiet.ensures (search rules) in
    let left = rw (c.occupancy_without-occupancy.ensures, ← from) at c.holding_squares.ensures m.to small (off_left _ _ m.to off) in
    is_decided _ _ m _ _ _ _ c.requires.well_formed lawful (search rules) (search rules) (c.are_found_at_once.ensures (search rules))
    (c.unsimple_squares.ensures m from small (off_right _ _ m.to off)) quiet c.free_steps.ensures left
