use Rattle.chess_core.proofs.Basics.{has_kind, king_squares, position_of, rules}
use Rattle.chess_core.proofs.board.Board.of.Goals as goal

pub invariant_of-result : goal.invariant_of-result
unfolding king_squares position_of
invariant_of-result c = search rules

pub returns : goal.returns
unfolding position_of
returns c = let held = c.each.ensures (has_kind c.args.diagram.now.men) (λ k b met. search rules) in search rules
