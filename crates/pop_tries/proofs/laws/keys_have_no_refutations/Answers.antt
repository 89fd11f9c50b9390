use Rattle.pop_tries.proofs.theorems.Refutations.{keys_are_without_refutations}
use Rattle.pop_tries.proofs.laws.keys_have_no_refutations.Goals as goal

pub returns : goal.returns
returns c = λ battle game n q. keys_are_without_refutations battle game n q
