use Rattle.std.proofs.Common.{sym, ◌∙◌}
use Rattle.std.proofs.lemmas.Bool.{false≢true}
use Rattle.chess_reach.proofs.guards.Guard.holding.Goals as goal

pub returns-then-not-are_reborn-clause-guarded : goal.returns-then-not-are_reborn-clause-guarded
returns-then-not-are_reborn-clause-guarded c j s small be off guards = c.guarding-guarding.ensures j s small be off guards

pub returns-then-not-are_reborn-clause-defended : goal.returns-then-not-are_reborn-clause-defended
returns-then-not-are_reborn-clause-defended c j h be lives off home guards = absurd (false≢true (sym c.if-not-are_reborn.true ∙ lives))

pub returns-clause-guarded : goal.returns-clause-guarded
returns-clause-guarded c j s small be off guards = c.joined.ensures.first _ j s (c.guarding-guarding.ensures j s small be off guards)

pub returns-clause-defended : goal.returns-clause-defended
returns-clause-defended c j h be lives off home guards = c.joined.ensures.second _ j c.args.square (c.defending.ensures j h be off home guards)
