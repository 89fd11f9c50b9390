use Rattle.chess_attacks.proofs.Basics.{◌∙◌}
use Rattle.chess_rules.proofs.Exposing.{faced_after}
use Rattle.chess_rules.proofs.legality.exposure.is_attacked_by_like_after.Goals as goal

pub returns : goal.returns
returns c = λ men are.
    faced_after men c.args.man.colour c.args.kind c.args.square c.reaching_among.result
    (c.reaching_among.ensures men are.occupied (c.own_squares_after-own.ensures ∙ are.own c.args.kind))
