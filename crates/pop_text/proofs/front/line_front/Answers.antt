use Rattle.pop_text.proofs.Basics.{arith, rules}
use Rattle.pop_text.proofs.Windows.{plain_prefix, plain_all}
use Rattle.pop_text.proofs.front.line_front.Goals as goal

pub returns-in-Some : goal.returns-in-Some
returns-in-Some c = search (rules, plain_prefix)

pub returns-in-None : goal.returns-in-None
returns-in-None c = record { within = omega arith; all = plain_all _ (λ k lt. c.in-None.ensures k (omega arith) lt); some = search rules }
