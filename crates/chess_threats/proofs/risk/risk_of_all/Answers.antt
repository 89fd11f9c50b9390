use Rattle.chess_threats.proofs.Risks.{all_weak}
use Rattle.chess_threats.proofs.risk.risk_of_all.Goals as goal

pub returns : goal.returns
returns c = all_weak _ _ c.for_each_kind.result _ c.for_each_kind.ensures c.joined.ensures.critical c.joined.ensures.lines
