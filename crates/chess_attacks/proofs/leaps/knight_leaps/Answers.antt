use Rattle.chess_attacks.proofs.Chess.{along, knight_steps, leaps, refl}
use Rattle.chess_attacks.proofs.rays.Computed.{near_at}
use Rattle.chess_attacks.specs.declared.leaps.TheConstants.{KNIGHT_LEAPS}
use Rattle.chess_attacks.proofs.leaps.knight_leaps.Goals as goal

pub returns : goal.returns
unfolding leaps along
returns c = near_at knight_steps KNIGHT_LEAPS c.args.from _ _ refl c.index.ensures.value c.index.ensures.small
