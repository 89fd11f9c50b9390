use Rattle.pop_input.proofs.Words.{arith, refl}
use Rattle.pop_input.proofs.Putting.{none_put}
use Rattle.pop_input.proofs.draft.Draft.new.Goals as goal

pub invariant_of-result : goal.invariant_of-result
invariant_of-result c = (rw c.new.ensures.men none_put, refl, omega arith, omega arith)
