use Rattle.chess_core.proofs.Basics.{rules, sym}
use Rattle.chess_core.proofs.Kings.{king_square-none, king_square-some}
use Rattle.chess_core.proofs.placement.Placement.king_of.Goals as goal

pub returns-then-kings-eq0 : goal.returns-then-kings-eq0
returns-then-kings-eq0 c = sym (king_square-none c.args.self.now c.args.colour (rw c.squares-kings.ensures at c.if-kings-eq0.true))

pub returns-else-kings-eq0 : goal.returns-else-kings-eq0
returns-else-kings-eq0 c = search (rules, king_square-some)
