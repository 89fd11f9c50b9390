use Rattle.chess_threats.proofs.Chess.{refl, rules}
use Rattle.chess_threats.proofs.LastingFlights.{all_leave}
use Rattle.chess_threats.proofs.lasting_flights.leave_one.Goals as goal

pub returns : goal.returns
returns c = λ yes. all_leave _ _ _ c.requires (search rules) (λ k. c.is_for_all.ensures yes k refl)
