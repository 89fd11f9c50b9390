use Rattle.pop_tries.proofs.theorems.Problems.{events_differ}
use Rattle.pop_tries.proofs.laws.no_event_comes_twice.Goals as goal

pub returns : goal.returns
returns c = events_differ
