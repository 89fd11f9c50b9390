use Rattle.chess_reach.proofs.Resting.{pawns_home}
use Rattle.chess_reach.proofs.ways.pawn_homes.Goals as goal

pub returns : goal.returns
returns c s h small on home = pawns_home c.args.colour _ _ s h small home (λ t low same. c.whole_files.ensures s t small low on same) c.second_rank.ensures
