use Rattle.chess_core.proofs.Words.{some_square_known}
use Rattle.chess_mates.proofs.Chess.{rules, squares_both, squares_either, squares_not, squares_of}
use Rattle.chess_mates.proofs.parries.is_approached.Goals as goal
use Rattle.chess_mates.specs.ties.Parries.{comes}

pub returns : goal.returns
unfolding squares_of
returns c = λ men reaching pawns.
    some_square_known (comes men c.args.colour c.args.king c.args.square) _
    (search (rules, squares_both, squares_either, squares_not, reaching, pawns, c.only.ensures, c.pawn_advances.ensures, c.other.ensures))
