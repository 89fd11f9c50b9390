use Rattle.chess_core.proofs.Basics.{rules, shr_and_one}
use Rattle.chess_core.proofs.Castlings.{has_unmoved-bit}
use Rattle.chess_core.proofs.man.Unmoved.has.Goals as goal

pub returns : goal.returns
returns c = search (rules, shr_and_one, has_unmoved-bit)
