use Rattle.chess_mates.proofs.Chess.{rules}
use Rattle.chess_mates.proofs.StayingChecks.{between_are}
use Rattle.chess_mates.proofs.parries.squares_between.Goals as goal

pub returns : goal.returns
returns c = λ men occupied.
    between_are men c.args.to c.args.king c.straight_lines.result c.diagonal_lines.result c.seen_from_both-straight.result c.seen_from_both-diagonal.result _
    (search rules) (search rules) c.straight_lines.ensures c.diagonal_lines.ensures (c.seen_from_both-straight.ensures men occupied)
    (c.seen_from_both-diagonal.ensures men occupied)
