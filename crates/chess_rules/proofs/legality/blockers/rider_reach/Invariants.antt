use Rattle.chess_rules.proofs.Chess.{List, Man, Option, bit_or, occupied_squares, steps_along, word, ◌≡◌}
use Rattle.chess_rules.proofs.legality.Riding.{ridden_by}
use Rattle.chess_rules.proofs.legality.blockers.rider_reach.Given as goal

abbrev pub invariant-loop-rider : goal.invariant-loop-rider
invariant-loop-rider l =
    (men : List (Option Man)) → l.occupied ≡ occupied_squares men
    → bit_or l.ridden (word (ridden_by men (steps_along l.lines) l.rest)) ≡ word (ridden_by men (steps_along l.lines) l.riders)

abbrev pub decreases-loop-rider : goal.decreases-loop-rider
decreases-loop-rider l = l.rest
