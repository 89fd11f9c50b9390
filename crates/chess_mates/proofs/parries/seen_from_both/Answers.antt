use Rattle.chess_mates.proofs.Chess.{rules, squares_both}
use Rattle.chess_mates.proofs.parries.seen_from_both.Goals as goal

pub returns : goal.returns
returns c = λ men occupied on. search (rules, squares_both, c.reach_over.ensures men, c.reach_over-2.ensures men, occupied)
