use Rattle.chess_mates.proofs.Chess.{rules}
use Rattle.chess_mates.proofs.Parrying.{unpinned_alone}
use Rattle.chess_mates.proofs.parries.unpinned_squares.Goals as goal

pub returns : goal.returns
returns c = unpinned_alone c.args.board.now c.args.m c.args.king c.blockers-blockers.result c.straight_lines.result c.diagonal_lines.result (search rules)
    (search (c.straight_lines.ensures)) (search (c.diagonal_lines.ensures)) (search rules) (search rules)
