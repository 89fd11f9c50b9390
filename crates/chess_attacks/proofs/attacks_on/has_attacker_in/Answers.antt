use Rattle.chess_attacks.proofs.Basics.{not, sym, ◌==◌, ◌||◌, ◌∙◌}
use Rattle.chess_attacks.proofs.attacks.Attacking.{some_reach}
use Rattle.chess_attacks.proofs.attacks_on.has_attacker_in.Goals as goal

pub returns : goal.returns
returns c = λ men seen.
    (λ i. ((not (sym c.if-leaping_attackers_in-ne0.false i == 0) || not (sym c.if-straight_attackers-ne0.false i == 0))
    || not (sym c.if-diagonal_attackers-ne0.false i == 0))
    || not (c.fairy_attackers.result == 0)) ∙ some_reach men c.args.colour c.args.square c.leaping_attackers_in.result c.straight_attackers.result
    c.diagonal_attackers.result c.fairy_attackers.result c.show_below_64.ensures
    (c.leaping_attackers_in.ensures men seen) (c.straight_attackers.ensures men seen) (c.diagonal_attackers.ensures men seen)
    (c.fairy_attackers.ensures men seen)
