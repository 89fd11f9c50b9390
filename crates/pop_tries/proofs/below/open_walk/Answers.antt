unfoldable use Rattle.pop_walk.specs.ties.Walk.{AreEnds}
use Rattle.pop_tries.proofs.Words.{rules}
unfoldable use Rattle.pop_battle.specs.ties.Frames.{AreCursors, IsLinked, position}
unfoldable use Rattle.pop_walk.specs.ties.Walk.{IsRoomy}
use Rattle.pop_walk.proofs.GoingOn.{walk_length-most}
use Rattle.pop_walk.proofs.Walking.{reverse-push}
use Rattle.pop_tries.proofs.Starts.{shows_below}
use Rattle.pop_tries.proofs.below.open_walk.Goals as goal

pub returns-clause-walking : goal.returns-clause-walking
unfolding IsLinked IsRoomy AreCursors AreEnds position
returns-clause-walking g c = search (rules, reverse-push, walk_length-most)

pub returns-clause-come : goal.returns-clause-come
returns-clause-come g c = search (rules, reverse-push, shows_below)
