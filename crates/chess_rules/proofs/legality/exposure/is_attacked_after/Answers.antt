use Rattle.chess_attacks.proofs.Basics.{rules}
use Rattle.chess_attacks.proofs.attacks.Attacking.{attacked_plainly}
use Rattle.chess_rules.proofs.Exposing.{attacked_after}
use Rattle.chess_rules.proofs.legality.exposure.is_attacked_after.Goals as goal

pub returns-then-not-like_men_paralyse : goal.returns-then-not-like_men_paralyse
returns-then-not-like_men_paralyse g c = search (rules, attacked_plainly, c.other-enemy.ensures, c.has_attacker_in.ensures)

pub returns : goal.returns
returns g c = λ men are seen.
    attacked_after g.R.Rules.rule men c.args.man.colour c.args.square c.attackers_in-attackers.result c.some_unparalysed_after.result
    (rw c.other-enemy.ensures at (c.attackers_in-attackers.ensures men (rw c.other-enemy.ensures seen))) (c.some_unparalysed_after.ensures men are)
