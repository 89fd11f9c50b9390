use Rattle.chess_reach.proofs.Getting.{goes_pawn}
use Rattle.chess_reach.proofs.ways.pawn_targets.Goals as goal

pub returns : goal.returns
returns c takes t on small go = goes_pawn takes _ _ t _ _ _ on (c.pawn_steps-steps.ensures t small) c.pawn_leaps.ensures small go
