use Rattle.pop_tries.proofs.theorems.Problems.{first_moves_are_keys_or_tries}
use Rattle.pop_tries.proofs.laws.first_moves_are_keys_or_tries.Goals as goal

pub returns : goal.returns
returns c = first_moves_are_keys_or_tries
