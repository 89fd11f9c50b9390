use Rattle.chess_rules.proofs.Chess.{◌≡◌}
use Rattle.chess_rules.proofs.listing_moves.Counts.{IsCountedTo}
use Rattle.chess_rules.proofs.listing_moves.counting.count_of_piece.Given as goal

abbrev pub invariant-loop-to : goal.invariant-loop-to
invariant-loop-to g l = record {
  board : l.board ≡ l.fn.board;
  counted : IsCountedTo g.R.Rules.rule l.fn.board l.from l.squares l.start l.end l.rest l.count;
}

abbrev pub decreases-loop-to : goal.decreases-loop-to
decreases-loop-to g l = l.rest
