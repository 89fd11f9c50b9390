use Rattle.chess_attacks.proofs.Basics.{rules}
use Rattle.chess_rules.proofs.Exposing.{paralysed_by}
use Rattle.chess_rules.proofs.legality.exposure.is_paralysed_after.Goals as goal

pub returns-then-not-is : goal.returns-then-not-is
returns-then-not-is g c = λ men are side.
    paralysed_by g.R.Rules.rule c.args.board.now.men men c.args.man c.args.m c.args.occupancy c.args.square c.in-Some.enemy
    c.is_attacked_by_like_after.result (search rules) are side (search rules) (search (rules, c.is_attacked_by_like_after.ensures men are))
