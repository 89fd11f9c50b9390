use Rattle.chess_rules.proofs.Blocking.{checkers_are, blocker_squares_all, blocker_squares_some}
use Rattle.chess_rules.proofs.legality.blockers.safety_from.Goals as goal

pub returns-then-checkers-ne0-clause-checkers : goal.returns-then-checkers-ne0-clause-checkers
returns-then-checkers-ne0-clause-checkers c = checkers_are _ _ _ _ _ c.other-enemy.ensures c.requires.king c.checkers_of-checkers.ensures

pub returns-then-checkers-ne0-clause-blockers : goal.returns-then-checkers-ne0-clause-blockers
returns-then-checkers-ne0-clause-blockers c =
    blocker_squares_all _ _ _ _ _ c.other-enemy.ensures c.requires.king c.checkers_of-checkers.ensures c.if-checkers-ne0.true

pub returns-clause-checkers : goal.returns-clause-checkers
returns-clause-checkers c = checkers_are _ _ _ _ _ c.other-enemy.ensures c.requires.king c.checkers_of-checkers.ensures

pub returns-clause-blockers : goal.returns-clause-blockers
returns-clause-blockers c =
    blocker_squares_some _ _ _ _ _ _ _ c.other-enemy.ensures c.requires.king c.checkers_of-checkers.ensures c.if-checkers-ne0.false c.blockers_of.ensures
    c.requires.lines
