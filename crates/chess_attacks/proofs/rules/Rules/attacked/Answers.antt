use Rattle.chess_attacks.proofs.Basics.{rules, ◌∙◌}
use Rattle.chess_attacks.proofs.attacks.Attacking.{attacked_by, attacked_plainly}
use Rattle.chess_attacks.proofs.rules.Rules.attacked.Goals as goal

pub returns-then-not-like_men_paralyse : goal.returns-then-not-like_men_paralyse
returns-then-not-like_men_paralyse g c = search (rules, attacked_plainly)

pub returns : goal.returns
returns g c =
    c.some_unparalysed.ensures ∙ attacked_by g.Self.Rules.rule c.args.board.now.men c.args.square c.attackers-men.result c.args.colour c.attackers-men.ensures
