use Rattle.chess_threats.proofs.KingAttacks.{threats_are}
use Rattle.chess_threats.proofs.risk.risk_of_king_attack.Goals as goal

pub returns : goal.returns
returns c = threats_are _ _ _ _ c.requires.king_attack c.requires.whole c.risk_at-risk.ensures c.rider_reach.ensures.all
