use Rattle.std.proofs.Common.{arith}
use Rattle.std.proofs.lemmas.Grind.{common_steps}
use Rattle.chess_core.proofs.man.Move.precedes.Goals as goal

pub returns : goal.returns
returns c = grind (arith, common_steps)
