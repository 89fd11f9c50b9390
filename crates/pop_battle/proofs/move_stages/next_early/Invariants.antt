use Rattle.pop_battle.proofs.Words.{Aimed, IsPlaceIn, belongs, filter, length, moves_after, ◌≡◌}
use Rattle.chess_mates.specs.ties.Aims.{aims_at_king}
use Rattle.pop_battle.proofs.move_stages.next_early.Given as goal

abbrev pub invariant-loop-by : goal.invariant-loop-by
invariant-loop-by g l = (l.board ≡ l.fn.board) × IsPlaceIn g.R.Rules.rule l.fn.board l.cursor
    × (filter (belongs l.fn.board l.order Aimed) (moves_after g.R.Rules.rule l.fn.board l.fn.cursor.place)
    ≡ filter (belongs l.fn.board l.order Aimed) (moves_after g.R.Rules.rule l.fn.board l.cursor.place))

abbrev pub decreases-loop-by : goal.decreases-loop-by
decreases-loop-by g l = length (filter (aims_at_king l.fn.board) (moves_after g.R.Rules.rule l.fn.board l.cursor.place))
