use Rattle.chess_mates.proofs.Chess.{rules}
use Rattle.chess_mates.proofs.FarMen.{found}
use Rattle.chess_flights.proofs.Hurdles.{found_on}
use Rattle.chess_mates.proofs.origins.far_king.Goals as goal

pub is_far-requires : goal.is_far-requires
is_far-requires g c =
    let men = c.men_off_blockers.ensures in
    let targets = c.targets_off_blockers-targets.ensures in
    let here = found_on _ 0 _ (rw c.next_bit.ensures.value at c.in-Some.is) in
    let first = found _ _ _ _ _ _ men.stands men.unblocking _ _ _ c.turn.ensures here (search rules) targets in
    record { here = first.0; targets = first.1 }
