use Rattle.pop_tries.proofs.Words.{arith}
use Rattle.std.specs.Prelude.{reverse}
use Rattle.std.proofs.lemmas.List.{length-reverse}
use Rattle.pop_walk.proofs.Paths.{path-length}
use Rattle.pop_tries.proofs.below.shown_node.Goals as goal

pub returns-clause-depth : goal.returns-clause-depth
returns-clause-depth g c = omega (arith, c.requires.deep, path-length (reverse c.args.frames.now), length-reverse c.args.frames.now)

pub returns-clause-half : goal.returns-clause-half
returns-clause-half g c = omega (arith, c.requires.deep, path-length (reverse c.args.frames.now), length-reverse c.args.frames.now)
