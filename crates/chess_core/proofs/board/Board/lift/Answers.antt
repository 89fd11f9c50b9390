use Rattle.chess_core.proofs.Kings.{king_lifted, other_lifted}
use Rattle.chess_core.proofs.Men.{AtMostOneKing-without}
use Rattle.chess_core.proofs.Basics.{length-set, rules, sym, ◌∙◌}
use Rattle.chess_core.proofs.board.Board.lift.Goals as goal

pub invariant_of-self : goal.invariant_of-self
invariant_of-self c = (
  search (rules, length-set),
  search (rules, AtMostOneKing-without),
  search (king_lifted, sym c.on-man.ensures ∙ c.in-Some.is, sym c.is.ensures ∙ c.if-is.true),
)

pub invariant_of-self-else-is : goal.invariant_of-self-else-is
invariant_of-self-else-is c = (
  search (rules, length-set),
  search (rules, AtMostOneKing-without),
  search (other_lifted, sym c.on-man.ensures ∙ c.in-Some.is, sym c.is.ensures ∙ c.if-is.false),
)
