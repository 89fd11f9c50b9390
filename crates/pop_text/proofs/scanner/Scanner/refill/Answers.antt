use Rattle.pop_text.proofs.Basics.{arith}
use Rattle.std.proofs.lemmas.Grind.{common_steps}
use Rattle.pop_text.proofs.scanner.Scanner.refill.Goals as goal

pub returns-then-self-clause-known : goal.returns-then-self-clause-known
returns-then-self-clause-known g c = grind (arith, common_steps)

pub returns-then-self-clause-waits : goal.returns-then-self-clause-waits
returns-then-self-clause-waits g c = grind (arith, common_steps)
