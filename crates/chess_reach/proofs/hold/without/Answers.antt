use Rattle.std.proofs.Common.{subst, ◌<◌}
use Rattle.chess_reach.proofs.Bitboards.{cleared, fewer, on_first}
use Rattle.chess_reach.proofs.hold.without.Goals as goal

pub returns-clause-gone : goal.returns-clause-gone
returns-clause-gone c =
    cleared c.args.squares c.args.square _ c.index.ensures.value (subst (λ n. n < 64) c.index.ensures.value c.index.ensures.small)

pub returns-clause-others : goal.returns-clause-others
returns-clause-others c t on = on_first _ _ t on

pub returns-clause-fewer : goal.returns-clause-fewer
returns-clause-fewer c = fewer _ _ c.args.square c.requires
    (cleared c.args.squares c.args.square _ c.index.ensures.value (subst (λ n. n < 64) c.index.ensures.value c.index.ensures.small))
