use Rattle.chess_attacks.proofs.attacks.Attacking.{reached}
use Rattle.chess_attacks.proofs.attacks_on.leaping_attackers.Goals as goal

pub returns : goal.returns
returns c = λ men seen.
    reached men c.args.colour c.args.kind c.args.square c.squares_seen.result c.reach_to.result (c.squares_seen.ensures men seen)
    (c.reach_to.ensures men seen.occupied)
