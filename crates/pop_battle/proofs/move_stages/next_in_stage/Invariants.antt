use Rattle.pop_battle.proofs.Words.{IsPlaceIn, belongs, filter, length, moves_after, ◌≡◌}
use Rattle.pop_battle.proofs.move_stages.next_in_stage.Given as goal

abbrev pub invariant-loop-by : goal.invariant-loop-by
invariant-loop-by g l = (l.board ≡ l.fn.board) × IsPlaceIn g.R.Rules.rule l.fn.board l.cursor
    × (filter (belongs l.fn.board l.order l.move_stage) (moves_after g.R.Rules.rule l.fn.board l.fn.cursor.place)
    ≡ filter (belongs l.fn.board l.order l.move_stage) (moves_after g.R.Rules.rule l.fn.board l.cursor.place))

abbrev pub decreases-loop-by : goal.decreases-loop-by
decreases-loop-by g l = length (moves_after g.R.Rules.rule l.fn.board l.cursor.place)
