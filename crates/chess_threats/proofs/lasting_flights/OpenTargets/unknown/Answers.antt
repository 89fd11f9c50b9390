use Rattle.chess_threats.proofs.Chess.{refl}
use Rattle.chess_threats.proofs.LastingFlights.{unknown_targets}
use Rattle.chess_threats.proofs.lasting_flights.OpenTargets.unknown.Goals as goal

pub returns : goal.returns
returns c = λ a. unknown_targets a _ _ refl c.for_all.ensures
