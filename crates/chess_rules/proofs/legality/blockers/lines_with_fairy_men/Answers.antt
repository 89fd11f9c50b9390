use Rattle.chess_attacks.proofs.Basics.{rules}
use Rattle.chess_rules.proofs.FairyLines.{fairy_lines_are, no_king_lined}
use Rattle.chess_rules.proofs.legality.blockers.lines_with_fairy_men.Goals as goal

pub returns-in_default : goal.returns-in_default
returns-in_default c = search (rules, no_king_lined)

pub returns : goal.returns
returns c =
    fairy_lines_are c.args.board.now.men c.args.colour c.in-Some.king c.queen_lines_with.result c.knight_lines_with.result (search rules)
    (search (rules, c.queen_lines_with.ensures)) (search (rules, c.knight_lines_with.ensures))
