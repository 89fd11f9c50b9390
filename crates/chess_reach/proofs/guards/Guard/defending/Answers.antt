use Rattle.std.proofs.Common.{inr, refl}
use Rattle.chess_rules.proofs.Stays.{rebirth_small}
use Rattle.chess_reach.proofs.guards.Guard.defending.Goals as goal

pub returns : goal.returns
returns c j h be off home guards =
    let at_home = c.at_rest-homes.ensures.reborn.rests j c.args.square h c.show_below_64.ensures be (c.promoted_too.ensures _ j) (inr (refl, home)) in
    let line = c.guarding-lines.ensures j h (rebirth_small c.args.colour j c.args.square h home) be off guards in
    c.all_to.ensures _ j h (c.within.ensures _ j h line at_home)
