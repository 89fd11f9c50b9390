use Rattle.chess_rules.proofs.Chess.{IsTargetCacheOf, ◌≡◌}
use Rattle.chess_rules.proofs.Walks.{IsWalked}
use Rattle.chess_rules.proofs.listing_moves.move_test.next_met.Given as goal

abbrev pub invariant-loop-from : goal.invariant-loop-from
invariant-loop-from g l = record {
  board : l.board ≡ l.fn.board;
  walked : IsWalked (g.S.MoveTest.test g.R.Rules.rule l.fn.board) l.fn.start l.rest;
  cache : IsTargetCacheOf g.R.Rules.rule l.fn.board (g.S.MoveTest.test g.R.Rules.rule l.fn.board) l.cache;
}

abbrev pub decreases-loop-from : goal.decreases-loop-from
decreases-loop-from g l = l.rest
