use Rattle.chess_attacks.proofs.attacks.Attacking.{attackers_are}
use Rattle.chess_rules.proofs.legality.Riding.{met_by_rides}
use Rattle.chess_rules.proofs.legality.blockers.checkers_of.Goals as goal

pub returns : goal.returns
returns c =
    let men = c.args.board.now.men in
    let seen = c.occupancy_now-occupancy.ensures c.args.colour in
    attackers_are _ _ _ _ _ _ _ c.show_below_64.ensures (c.leaping_attackers_in.ensures men seen)
    (met_by_rides _ _ _ _ _ _ _ c.line_riders.ensures c.requires.straight) (met_by_rides _ _ _ _ _ _ _ c.line_riders-2.ensures c.requires.diagonal)
    (c.fairy_attackers.ensures men seen)
