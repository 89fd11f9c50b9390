use Rattle.pop_battle.proofs.LastMoves.{AreTried}
use Rattle.pop_battle.proofs.Words.{IsPlaceIn, Mate, SelfMate, chess, joined_value, length, moves_after, smallest_below, ◌≡◌}
use Rattle.pop_battle.proofs.last_move.some_forces_mate.Given as goal

abbrev pub invariant-loop-by : goal.invariant-loop-by
invariant-loop-by g l =
    let following = moves_after g.R.Rules.rule l.fn.board in
    let game = chess Mate g.R.Rules.rule in
    (l.board ≡ l.fn.board) × IsPlaceIn g.R.Rules.rule l.fn.board l.cursor × (l.counted ≡ 0 → following l.fn.cursor.place ≡ following l.cursor.place)
    × AreTried SelfMate g.R.Rules.rule 1 l.fn.board (following l.cursor.place) (joined_value SelfMate game 2 l.fn.board (following l.fn.cursor.place))
    0 (smallest_below SelfMate game 2 l.fn.board (following l.fn.cursor.place)) (length (following l.fn.cursor.place)) l.counted

abbrev pub decreases-loop-by : goal.decreases-loop-by
decreases-loop-by g l = length (moves_after g.R.Rules.rule l.fn.board l.cursor.place)
