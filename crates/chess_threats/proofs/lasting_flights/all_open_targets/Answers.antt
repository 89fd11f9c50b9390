use Rattle.chess_threats.proofs.LastingFlights.{are_open_targets}
use Rattle.chess_threats.proofs.lasting_flights.all_open_targets.Goals as goal

pub returns : goal.returns
returns c =
    are_open_targets _ _ _ _ _ c.for_each_kind-reached.ensures c.open_targets_of-advances.ensures c.for_each_kind.ensures c.union_of.ensures.all
