use Rattle.pop_tries.proofs.Words.{refl, rules}
unfoldable use Rattle.pop_tries.specs.ties.Searching.{left_of}
use Rattle.pop_tries.proofs.group.end_group.Goals as goal

pub returns-in-Keys-clause-emits : goal.returns-in-Keys-clause-emits
unfolding left_of
returns-in-Keys-clause-emits g c = λ items. rw c.in-Keys.is (_, refl, search rules)

pub returns-in-Tries-clause-emits : goal.returns-in-Tries-clause-emits
unfolding left_of
returns-in-Tries-clause-emits g c = λ items. rw c.in-Tries.is (_, refl, search rules)
