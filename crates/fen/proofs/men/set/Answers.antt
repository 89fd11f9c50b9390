use Rattle.fen.proofs.Basics.{arith}
use Rattle.fen.proofs.Loop.{put_here}
use Rattle.fen.proofs.men.set.Goals as goal

pub returns-in-Some-clause-here : goal.returns-in-Some-clause-here
returns-in-Some-clause-here c =
    put_here c.args.diagram.now c.put-empty.new.self _ _ c.in-Some.man c.args.found c.put-empty.result
    c.requires.size c.square_before-square.ensures (omega arith) c.in-Some.is c.requires.empty c.put-empty.ensures
