use Rattle.chess_rules.proofs.Chess.{has_unmoved, sym, ◌∙◌}
use Rattle.chess_rules.proofs.Arrivals.{castling_none}
use Rattle.chess_rules.proofs.legality.targets.castling_squares.Goals as goal

pub returns-else-has : goal.returns-else-has
returns-else-has c =
    castling_none (has_unmoved c.args.board.now.unmoved c.args.from) c.args.man c.args.from (rw c.unmoved.ensures at (sym c.has.ensures ∙ c.if-has.false))
