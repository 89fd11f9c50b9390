use Rattle.std.proofs.Common.{subst, true, ◌≡◌}
use Rattle.chess_reach.proofs.Returning.{starts_there}
use Rattle.chess_reach.specs.ties.Whereabouts.{has}
use Rattle.chess_reach.proofs.ways.at_rest.Goals as goal

pub returns-then-not-are_reborn-clause-kept : goal.returns-then-not-are_reborn-clause-kept
returns-then-not-are_reborn-clause-kept c j t small had = had

pub returns-then-not-are_reborn-clause-reborn : goal.returns-then-not-are_reborn-clause-reborn
returns-then-not-are_reborn-clause-reborn c = record {
  rests = λ j r t low be had start. subst (λ q. has c.args.man.kind j q c.args.at.now ≡ true)
      (starts_there c.args.are_reborn c.args.man.colour j r t c.if-not-are_reborn.true start) had;
}

pub returns-clause-kept : goal.returns-clause-kept
returns-clause-kept c j t small had = c.with_homes.ensures.kept j t had

pub returns-clause-reborn : goal.returns-clause-reborn
returns-clause-reborn c = c.with_homes.ensures.reborn c.args.are_reborn
