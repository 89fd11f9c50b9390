use Rattle.pop_tries.specs.ties.MoveSets.{HoldBefore, may_hold}
use Rattle.pop_tries.proofs.Words.{filter, legal_moves, length, Move, Some, true, ◌+◌, ◌≡◌, ◌≤◌}
use Rattle.std.specs.Prelude.{IfSome}
use Rattle.chess_rules.specs.ties.Places.{IsPlaceIn, moves_after}
use Rattle.pop_tries.specs.ties.FirstMoves.{IsRefutedAt, refutes_among}
use Rattle.pop_tries.proofs.replies.count_among.Given as goal

-- the refutations so far, and those among the moves that follow, are all that are counted; those so far are held
abbrev pub invariant-loop-by : goal.invariant-loop-by
invariant-loop-by g l = (l.desk.board ≡ l.fn.desk.board) × (l.desk.frames.items ≡ l.fn.desk.frames.items) × IfSome l.cursor (λ k. IsPlaceIn g.R.Rules.rule l.fn.desk.board k)
    × (l.count ≤ l.fn.tally.most)
    × (l.count + length (filter (refutes_among g.R.Rules.rule l.fn.contest l.fn.counted l.fn.desk.board) (moves_after g.R.Rules.rule l.fn.desk.board l.place))
    ≡ l.fn.tally.count + length (filter (refutes_among g.R.Rules.rule l.fn.contest l.fn.counted l.fn.desk.board) (legal_moves g.R.Rules.rule l.fn.desk.board)))
    × ((m : Move) → may_hold l.fn.tally.refuting m ≡ true → may_hold l.refuting m ≡ true)
    × HoldBefore g.R.Rules.rule l.fn.desk.board (refutes_among g.R.Rules.rule l.fn.contest l.fn.counted l.fn.desk.board) (Some l.refuting) l.place
    × IsRefutedAt g.R.Rules.rule l.fn.contest l.fn.desk.board l.last

abbrev pub decreases-loop-by : goal.decreases-loop-by
decreases-loop-by g l = length (moves_after g.R.Rules.rule l.fn.desk.board l.place)
