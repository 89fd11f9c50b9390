use Rattle.std.proofs.Common.{subst, ◌<◌}
use Rattle.chess_reach.proofs.Parts.{has_brought}
use Rattle.chess_reach.proofs.whereabouts.Whereabouts.all_to.Goals as goal

pub returns : goal.returns
returns c k j s had =
    has_brought k j s c.args.square c.index.result _ _ _ _ _ _ c.index.ensures.value (subst (λ n. n < 64) c.index.ensures.value c.index.ensures.small) c.if_any.ensures
    c.if_any-2.ensures c.if_any-3.ensures had
