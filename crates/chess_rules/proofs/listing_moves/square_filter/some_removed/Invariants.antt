use Rattle.chess_rules.proofs.Chess.{◌≡◌}
use Rattle.chess_rules.proofs.listing_moves.square_filter.some_removed.Given as goal

abbrev pub invariant-loop-from : goal.invariant-loop-from
invariant-loop-from g l = (l.board ≡ l.fn.board) × (l.square_filter ≡ l.fn.square_filter)

abbrev pub decreases-loop-from : goal.decreases-loop-from
decreases-loop-from g l = l.rest
