use Rattle.chess_rules.proofs.Chess.{drop, moves, moves_after, ◌≡◌}
use Rattle.chess_rules.proofs.listing_moves.moves.nth_move.Given as goal

abbrev pub invariant-loop-call : goal.invariant-loop-call
invariant-loop-call g l = record {
  board : l.board ≡ l.fn.board;
  place : moves_after g.R.Rules.rule l.fn.board l.cursor ≡ drop l._call (moves g.R.Rules.rule l.fn.board);
}
