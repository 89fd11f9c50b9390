use Rattle.chess_attacks.proofs.Chess.{Black, White, along, leaps, pawn_capture_steps, refl}
use Rattle.chess_attacks.proofs.rays.Computed.{near_at}
use Rattle.chess_attacks.specs.declared.leaps.TheConstants.{BLACK_CAPTURES, WHITE_CAPTURES}
use Rattle.chess_attacks.proofs.leaps.pawn_leaps.Goals as goal

pub returns-in-White : goal.returns-in-White
unfolding leaps along
returns-in-White c =
    rw c.in-White.is (near_at (pawn_capture_steps White) WHITE_CAPTURES c.args.from _ _ refl c.index-index.ensures.value c.index-index.ensures.small)

pub returns-in-Black : goal.returns-in-Black
unfolding leaps along
returns-in-Black c =
    rw c.in-Black.is (near_at (pawn_capture_steps Black) BLACK_CAPTURES c.args.from _ _ refl c.index-index.ensures.value c.index-index.ensures.small)
