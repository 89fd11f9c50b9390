use Rattle.chess_core.proofs.Basics.{None, is_of_colour, side_of, ◌∙◌}
use Rattle.chess_core.proofs.Kept.{side_kept}
use Rattle.chess_core.proofs.Words.{word_on}
use Rattle.chess_core.proofs.placement.Placement.of_colour.Goals as goal

pub returns : goal.returns
unfolding side_of
returns c = rw (c.number.ensures.value, ← c.self.view_is)
    (side_kept _ _ _ c.args.colour c.self.invariant.1 ∙ word_on (λ x. is_of_colour x c.args.colour) c.self.inside.array None c.self.invariant.0)
