use Rattle.chess_threats.proofs.Chess.{rules}
use Rattle.chess_flights.proofs.QuietFilter.{all_left}
use Rattle.chess_threats.proofs.quiet_steps.stopping_squares.Goals as goal

pub returns-then-has_attacker_in : goal.returns-then-has_attacker_in
returns-then-has_attacker_in c = λ w t on small off. all_left t small off

pub returns : goal.returns
returns c = λ w t on small off. record {
  left = c.barring_squares.ensures w t on small off;
  others = λ men are. search (rules, c.has_attacker_in.ensures men);
}
