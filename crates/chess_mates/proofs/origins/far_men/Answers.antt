use Rattle.chess_mates.proofs.Chess.{rules}
use Rattle.chess_mates.proofs.FarMen.{found}
use Rattle.chess_flights.proofs.Hurdles.{rest_here}
use Rattle.chess_mates.proofs.origins.far_men.Goals as goal

pub is_far-requires : goal.is_far-requires
is_far-requires g c =
    let men = c.men_off_blockers-men.ensures in
    let targets = c.targets_off_blockers-targets.ensures in
    let one = found _ _ _ _ _ _ men.stands men.unblocking _ _ _ c.turn.ensures (search (rules, rest_here)) (λ king. cc) targets in
    record { here = one.0; targets = one.1 }
