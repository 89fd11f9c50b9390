use Rattle.chess_core.proofs.Basics.{None, is_kind, is_kind_on, ◌∙◌}
use Rattle.chess_core.proofs.Kept.{kind_kept}
use Rattle.chess_core.proofs.Words.{word_on}
use Rattle.chess_core.proofs.placement.Placement.of_kind.Goals as goal

pub returns : goal.returns
unfolding is_kind_on
returns c = rw (c.number.ensures.value, ← c.self.view_is)
    (kind_kept _ _ _ c.args.kind c.self.invariant.1 ∙ word_on (λ x. is_kind x c.args.kind) c.self.inside.array None c.self.invariant.0)
