use Rattle.chess_mates.proofs.Chess.{arith, refl}
use Rattle.chess_mates.proofs.FarMen.{far_apart}
use Rattle.chess_mates.proofs.origins.far_pawns.Goals as goal

pub returns : goal.returns
returns g c =
    let men = c.men_off_blockers.ensures in
    far_apart _ _ _ _ _ _ men.stands men.unblocking _ _ (omega arith) refl c.targets_off_blockers-targets.ensures c.turn.ensures c.pawns_before.ensures
