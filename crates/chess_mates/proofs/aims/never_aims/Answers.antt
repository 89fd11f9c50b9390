use Rattle.chess_mates.proofs.Aiming.{never_aimed}
use Rattle.chess_mates.proofs.Chess.{arith, rules}
use Rattle.chess_mates.proofs.aims.never_aims.Goals as goal

pub returns-then-not-is_fairy : goal.returns-then-not-is_fairy
returns-then-not-is_fairy c = λ none.
    never_aimed _ _ c.in-Some.man c.in-Some-king_of.king c.unblocked_reach.result (search rules) (search rules) (omega arith) (search rules) (search rules)
    (search rules)
