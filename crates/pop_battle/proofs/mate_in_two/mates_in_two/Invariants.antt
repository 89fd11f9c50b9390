use Rattle.pop_battle.proofs.LastMoves.{AreTried}
use Rattle.pop_battle.proofs.Words.{Direct, IsPlaceIn, Mate, chess, legal_moves, length, moves_ahead, position_after, smallest_tree, value, walk_count, ◌+◌, ◌≡◌}
use Rattle.pop_battle.proofs.mate_in_two.mates_in_two.Given as goal

abbrev pub invariant-loop-by : goal.invariant-loop-by
invariant-loop-by g l = (l.board ≡ l.fn.board) × IsPlaceIn g.R.Rules.rule l.fn.board l.cursor
    × AreTried Direct g.R.Rules.rule 2 l.fn.board (moves_ahead g.R.Rules.rule l.fn.board l.order l.move_stage l.cursor.place)
    (value Direct (chess Mate g.R.Rules.rule) 3 l.fn.board) l.fn.search_state.opened (smallest_tree Direct (chess Mate g.R.Rules.rule) 3 l.fn.board)
    (l.fn.search_state.opened + walk_count (legal_moves g.R.Rules.rule) (position_after g.R.Rules.rule) 3 l.fn.board) l.search_state.opened

abbrev pub decreases-loop-by : goal.decreases-loop-by
decreases-loop-by g l = length (moves_ahead g.R.Rules.rule l.fn.board l.order l.move_stage l.cursor.place)
