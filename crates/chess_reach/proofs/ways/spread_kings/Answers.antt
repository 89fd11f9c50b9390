use Rattle.chess_attacks.proofs.Bits.{on_left}
use Rattle.chess_reach.proofs.Shifts.{kings_reach}
use Rattle.chess_reach.proofs.ways.spread_kings.Goals as goal

pub returns-clause-kept : goal.returns-clause-kept
returns-clause-kept c t small on = on_left _ _ t (on_left _ _ t (on_left _ _ t (on_left _ _ t on)))

pub returns-clause-reached : goal.returns-clause-reached
returns-clause-reached c d s t small low on reach = kings_reach d c.args.squares s t small on reach
