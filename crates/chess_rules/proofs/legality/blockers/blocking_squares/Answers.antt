use Rattle.chess_attacks.proofs.Basics.{rules}
use Rattle.chess_rules.proofs.legality.Riding.{none_shut, shut_are}
use Rattle.chess_rules.proofs.legality.blockers.blocking_squares.Goals as goal

pub returns-then-riders-eq0 : goal.returns-then-riders-eq0
returns-then-riders-eq0 c = search (rules, none_shut)

pub returns : goal.returns
returns c = search (rules, shut_are, c.rider_reach.ensures)
