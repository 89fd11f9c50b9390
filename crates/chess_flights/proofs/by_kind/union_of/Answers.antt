use Rattle.chess_flights.proofs.Chess.{arith, on_left, on_right}
use Rattle.chess_flights.proofs.Unions.{one_of_union}
use Rattle.chess_flights.proofs.by_kind.union_of.Goals as goal

pub returns-clause-all : goal.returns-clause-all
returns-clause-all c = λ k s on. grind (arith, on_left, on_right)

pub returns-clause-alone : goal.returns-clause-alone
returns-clause-alone c = one_of_union c.args.squares.now
