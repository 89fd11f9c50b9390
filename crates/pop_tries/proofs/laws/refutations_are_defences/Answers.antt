use Rattle.pop_tries.proofs.theorems.Problems.{refutations_of_chess_are_defences}
use Rattle.pop_tries.proofs.laws.refutations_are_defences.Goals as goal

pub returns : goal.returns
returns c = refutations_of_chess_are_defences
