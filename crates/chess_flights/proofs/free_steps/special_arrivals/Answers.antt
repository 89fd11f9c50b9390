use Rattle.chess_flights.proofs.Chess.{and_left, and_parts, arith, false_by, false≢true, no_pawn_arrives, pawn_is_no_king, rules}
use Rattle.chess_flights.proofs.Promotions.{last_rank_on}
use Rattle.chess_flights.proofs.QuietFilter.{king_arrivals}
use Rattle.chess_flights.proofs.free_steps.special_arrivals.Goals as goal

pub returns-then-is : goal.returns-then-is
returns-then-is c = λ m from small off.
    search (rules, and_left, and_parts, false_by, false≢true, last_rank_on, pawn_is_no_king)

pub returns-then-is-2 : goal.returns-then-is-2
returns-then-is-2 c = λ m from small off.
    king_arrivals _ m c.king_leaps.result (search rules) (omega arith) small (rw from c.king_leaps.ensures) (omega arith) off

pub returns : goal.returns
returns c = λ m from small off. search (rules, and_left, no_pawn_arrives)
