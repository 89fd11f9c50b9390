use Rattle.chess_mates.proofs.Chess.{IsPlaceIn, false, is_mating, length, list_all, moves_after, ◌≡◌}
use Rattle.chess_mates.proofs.every_move.has_quiet_move.Given as goal

abbrev pub invariant-loop-m : goal.invariant-loop-m
invariant-loop-m g l = record {
  board : l.board ≡ l.fn.board;
  within : IsPlaceIn g.R.Rules.rule l.fn.board l.cursor;
  rest : list_all (is_mating g.R.Rules.rule l.fn.board) (moves_after g.R.Rules.rule l.fn.board l.cursor.place) ≡ false
      → list_all (is_mating g.R.Rules.rule l.fn.board) (moves_after g.R.Rules.rule l.fn.board l.fn.cursor.place) ≡ false;
}

abbrev pub decreases-loop-m : goal.decreases-loop-m
decreases-loop-m g l = length (moves_after g.R.Rules.rule l.fn.board l.cursor.place)
