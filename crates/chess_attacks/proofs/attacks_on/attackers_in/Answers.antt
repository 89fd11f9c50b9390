use Rattle.chess_attacks.proofs.attacks.Attacking.{attackers_are}
use Rattle.chess_attacks.proofs.attacks_on.attackers_in.Goals as goal

pub returns : goal.returns
returns c = λ men seen.
    attackers_are _ _ _ _ _ _ _ c.show_below_64.ensures (c.leaping_attackers_in.ensures men seen)
    (c.straight_attackers.ensures men seen) (c.diagonal_attackers.ensures men seen) (c.fairy_attackers.ensures men seen)
