use Rattle.pop_tries.proofs.theorems.Refutations.{each_is_key_or_try_or_has_more}
use Rattle.pop_tries.proofs.laws.each_is_key_or_try_or_has_more.Goals as goal

pub returns : goal.returns
returns c = λ battle game n most passing q. each_is_key_or_try_or_has_more battle game n q passing most
