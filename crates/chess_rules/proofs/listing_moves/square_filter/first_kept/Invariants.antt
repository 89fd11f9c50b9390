use Rattle.chess_rules.proofs.Chess.{is_legal_and, ◌≡◌}
use Rattle.chess_rules.proofs.listing_moves.Counts.{IsCounted}
use Rattle.chess_rules.proofs.Walks.{IsWalked}
use Rattle.chess_rules.proofs.listing_moves.square_filter.first_kept.Given as goal

-- the moves skipped so far fail the test, and are counted
abbrev pub invariant-loop-from : goal.invariant-loop-from
invariant-loop-from g l = record {
  board : l.board ≡ l.fn.board;
  same : l.square_filter ≡ l.fn.square_filter;
  none : IsWalked (is_legal_and g.R.Rules.rule l.fn.board (g.S.SquareFilter.test g.R.Rules.rule l.fn.board)) l.start l.rest;
  skipped : IsCounted g.R.Rules.rule l.fn.board l.start l.rest l.skipped;
}

abbrev pub decreases-loop-from : goal.decreases-loop-from
decreases-loop-from g l = l.rest
