use Rattle.chess_core.proofs.Basics.{rules}
use Rattle.chess_core.proofs.diagram.Diagram.put.Goals as goal

pub returns : goal.returns
returns c = (search rules, rw (← c.self.view_is) (search c.place.ensures))
