use Rattle.chess_attacks.proofs.Chess.{along, leaps, queen_steps, refl}
use Rattle.chess_attacks.proofs.rays.Computed.{near_at}
use Rattle.chess_attacks.specs.declared.leaps.TheConstants.{NEIGHBOURS}
use Rattle.chess_attacks.proofs.leaps.king_leaps.Goals as goal

pub returns : goal.returns
unfolding leaps along
returns c = near_at queen_steps NEIGHBOURS c.args.from _ _ refl c.index.ensures.value c.index.ensures.small
