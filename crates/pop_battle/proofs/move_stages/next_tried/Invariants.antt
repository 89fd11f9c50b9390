use Rattle.pop_battle.proofs.Words.{IsPlaceIn, moves_ahead, move_stages_after, ◌≡◌}
use Rattle.pop_battle.proofs.move_stages.next_tried.Given as goal

abbrev pub invariant-loop-by : goal.invariant-loop-by
invariant-loop-by g l = (l.board ≡ l.fn.board) × IsPlaceIn g.R.Rules.rule l.fn.board l.cursor
    × (moves_ahead g.R.Rules.rule l.fn.board l.order l.fn.move_stage l.fn.cursor.place
    ≡ moves_ahead g.R.Rules.rule l.fn.board l.order l.move_stage l.cursor.place)

abbrev pub decreases-loop-by : goal.decreases-loop-by
decreases-loop-by g l = move_stages_after l.move_stage
