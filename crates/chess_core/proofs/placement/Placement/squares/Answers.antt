use Rattle.chess_core.proofs.Basics.{None, is_man, squares_of, ◌∙◌}
use Rattle.chess_core.proofs.Kept.{men_kept}
use Rattle.chess_core.proofs.Words.{word_on}
use Rattle.chess_core.proofs.placement.Placement.squares.Goals as goal

pub returns : goal.returns
unfolding squares_of
returns c = rw (c.number.ensures.value, c.number-2.ensures.value, ← c.self.view_is)
    (men_kept _ _ _ c.args.colour c.args.kind c.self.invariant.0 c.self.invariant.1
    ∙ word_on (λ x. is_man x c.args.colour c.args.kind) c.self.inside.array None c.self.invariant.0)
