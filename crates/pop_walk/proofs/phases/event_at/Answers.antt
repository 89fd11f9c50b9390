use Rattle.pop_walk.proofs.Words.{arith, length-reverse}
use Rattle.pop_walk.proofs.Paths.{path-length}
use Rattle.pop_walk.proofs.phases.event_at.Goals as goal

pub returns-clause-event : goal.returns-clause-event
returns-clause-event g c = grind (arith, path-length, length-reverse)
