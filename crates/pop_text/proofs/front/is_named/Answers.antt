use Rattle.pop_text.proofs.Basics.{arith}
use Rattle.std.proofs.lemmas.Grind.{common_steps}
use Rattle.pop_text.proofs.front.is_named.Goals as goal

pub returns-in-len3-up : goal.returns-in-len3-up
returns-in-len3-up c = grind (arith, common_steps)
