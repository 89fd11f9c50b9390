use Rattle.chess_reach.proofs.Getting.{all_on}
use Rattle.chess_reach.proofs.ways.spread_pieces.Goals as goal

pub returns-then-spread_out-clause-kept : goal.returns-then-spread_out-clause-kept
returns-then-spread_out-clause-kept c t small on = all_on t small

pub returns-then-spread_out-clause-reached : goal.returns-then-spread_out-clause-reached
returns-then-spread_out-clause-reached c s t small too on go = all_on t too
