use Rattle.chess_threats.proofs.Chess.{rules}
use Rattle.chess_flights.proofs.Hurdles.{on_one}
use Rattle.chess_threats.proofs.steps.reached_squares.Goals as goal

pub returns-clause-alone : goal.returns-clause-alone
returns-clause-alone c = λ t small on. search (rules, c.rider_reach-ridden.ensures.alone, c.leapt_squares.ensures.alone, on_one)
