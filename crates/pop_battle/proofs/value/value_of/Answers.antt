use Rattle.pop_battle.proofs.Words.{Order, ap, arith}
use Rattle.pop_battle.proofs.Tests as test
use Rattle.pop_battle.proofs.value.value_of.Goals as goal

pub loop-found-init : goal.loop-found-init
loop-found-init g c = test.begins g.R.Rules.rule c.args.aim _ _ _ _ c.order_of-order.result _ _ _ _ _ _ _ _ c.len-floor.ensures.value
    (rw (c.previous.ensures, ap (λ (o : Order). o.killer) c.order.view_is) at c.push.ensures.items) c.value_at_once.ensures.cursor
    (rw c.len-floor.ensures.value c.requires.room) (omega (arith, c.in_default.ensures.opened)) (omega (arith, c.in_default.ensures.opened))
    c.value_at_once.ensures.unchanged (rw c.value_at_once.ensures.unchanged c.requires.well_formed) c.in_default.ensures.value
