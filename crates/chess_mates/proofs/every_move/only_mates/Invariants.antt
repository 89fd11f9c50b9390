use Rattle.chess_mates.proofs.Chess.{IsPlaceIn, is_mating, is_nil, length, list_all, moves_after, not, ◌&&◌, ◌||◌, ◌≡◌}
use Rattle.chess_mates.proofs.every_move.only_mates.Given as goal

abbrev pub invariant-loop-m : goal.invariant-loop-m
invariant-loop-m g l = record {
  board : l.board ≡ l.fn.board;
  within : IsPlaceIn g.R.Rules.rule l.fn.board l.cursor;
  rest : ((l.some || not (is_nil (moves_after g.R.Rules.rule l.fn.board l.cursor.place)))
      && list_all (is_mating g.R.Rules.rule l.fn.board) (moves_after g.R.Rules.rule l.fn.board l.cursor.place))
      ≡ (not (is_nil (moves_after g.R.Rules.rule l.fn.board l.fn.cursor.place))
      && list_all (is_mating g.R.Rules.rule l.fn.board) (moves_after g.R.Rules.rule l.fn.board l.fn.cursor.place));
}

abbrev pub decreases-loop-m : goal.decreases-loop-m
decreases-loop-m g l = length (moves_after g.R.Rules.rule l.fn.board l.cursor.place)
