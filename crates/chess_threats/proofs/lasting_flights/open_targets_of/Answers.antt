use Rattle.chess_threats.proofs.Chess.{rules, taken_map, taken_on}
use Rattle.chess_threats.proofs.LastingFlights.{targets_left, targets_right}
use Rattle.chess_threats.proofs.lasting_flights.open_targets_of.Goals as goal

pub loop-from-preserved : goal.loop-from-preserved
loop-from-preserved c =
    taken_on _ _ _ _ _ _ (taken_map _ _ _ _ (λ s h. search (rules, targets_left)) c.loop-from.invariant)
    c.pop_first.ensures.taken c.in-Some.is (search (rules, targets_right _ _ c.loop-from.targets _ c.unblocked_targets-more.ensures))
