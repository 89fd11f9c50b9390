use Rattle.chess_threats.proofs.KingAttacks.{springs_are}
use Rattle.chess_threats.proofs.king_zone.hop_targets_of.Goals as goal

pub returns : goal.returns
returns c = springs_are _ _ _ _ _ _ c.adjacent_squares-adjacent.ensures c.springboards_of-own.ensures c.landings_among-landings.ensures
