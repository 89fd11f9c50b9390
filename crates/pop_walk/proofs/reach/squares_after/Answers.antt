use Rattle.pop_walk.proofs.Words.{rules}
use Rattle.pop_walk.proofs.KingEnds.{king_off}
use Rattle.pop_walk.proofs.OutOfReach.{ends_after}
use Rattle.pop_walk.proofs.reach.squares_after.Goals as goal

pub returns-then-ends_off-clause-after : goal.returns-then-ends_off-clause-after
returns-then-ends_off-clause-after g c = king_off g.R.Rules.rule c.args.goal c.args.board.now c.args.by c.args.squares c.args.left c.requires.well_formed
    c.requires.legal (search rules) (search rules) c.requires.before

pub returns-clause-after : goal.returns-clause-after
returns-clause-after g c =
    search (rules, ends_after g.R.Rules.rule c.args.goal c.args.left c.args.squares c.args.board.now c.args.by c.requires.legal c.requires.before)
