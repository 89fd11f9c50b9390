use Rattle.pop_walk.proofs.OutOfReach.{line_ends_hold}
use Rattle.pop_walk.proofs.reach.line_ends_after.Goals as goal

pub squares_after-squares-requires-clause-before : goal.squares_after-squares-requires-clause-before
squares_after-squares-requires-clause-before g c = line_ends_hold g.R.Rules.rule _ _ c.args.line_ends c.line_ends_or_all-before.result c.args.mode.goal
    c.requires.line_ends c.line_ends_or_all-before.ensures.line_ends c.line_ends_or_all-before.ensures.goal
