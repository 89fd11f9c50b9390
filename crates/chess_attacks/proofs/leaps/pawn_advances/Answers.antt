use Rattle.chess_attacks.proofs.rays.Computed.{black_steps_at, white_steps_at}
use Rattle.chess_attacks.proofs.leaps.pawn_advances.Goals as goal

pub returns-in-White : goal.returns-in-White
returns-in-White c = rw c.in-White.is (white_steps_at c.args.from _ _ c.index-index.ensures.value c.index-index.ensures.small)

pub returns-in-Black : goal.returns-in-Black
returns-in-Black c = rw c.in-Black.is (black_steps_at c.args.from _ _ c.index-index.ensures.value c.index-index.ensures.small)
