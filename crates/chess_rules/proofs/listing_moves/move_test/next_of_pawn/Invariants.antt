use Rattle.chess_rules.proofs.Chess.{NoneMeet, NamesMove, meets_on, per_origin, ◌*◌, ◌+◌, ◌-◌, ◌<◌, ◌≡◌, ◌≤◌}
use Rattle.chess_rules.proofs.listing_moves.move_test.next_of_pawn.Given as goal

abbrev pub invariant-loop-at : goal.invariant-loop-at
invariant-loop-at g l = record {
  board : l.board ≡ l.fn.board;
  low : l.start ≤ l.at;
  high : l.at ≤ per_origin;
  named : l.at < per_origin → NamesMove l.fn.board l.from l.squares l.at;
  none : NoneMeet (meets_on l.squares (g.S.MoveTest.test g.R.Rules.rule l.fn.board)) (per_origin * l.from + l.start) (per_origin * l.from + l.at);
}

abbrev pub decreases-loop-at : goal.decreases-loop-at
decreases-loop-at g l = per_origin - l.at
