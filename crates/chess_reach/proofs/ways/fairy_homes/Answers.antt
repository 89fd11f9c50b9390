use Rattle.chess_reach.proofs.Resting.{fairy_home}
use Rattle.chess_reach.proofs.ways.fairy_homes.Goals as goal

pub returns : goal.returns
returns c k s h fairy small on home =
    fairy_home c.args.colour k _ _ s h fairy small home (λ t low same. c.whole_files.ensures s t small low on same) c.last_rank.ensures
