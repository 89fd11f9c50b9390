use Rattle.pop_tries.proofs.Words.{filter, legal_moves, length, Some, ◌≡◌}
use Rattle.std.specs.Prelude.{IfSome}
use Rattle.chess_rules.specs.ties.Places.{IsPlaceIn, moves_after}
use Rattle.pop_tries.specs.ties.Contests.{wins_within}
use Rattle.pop_tries.specs.ties.FewPlaces.{AreAt}
use Rattle.pop_tries.specs.ties.MoveSets.{HoldBefore}
use Rattle.pop_tries.proofs.threats.tested_moves.Given as goal

-- the winning moves so far are held, and noted
abbrev pub invariant-loop-by : goal.invariant-loop-by
invariant-loop-by g l = (l.desk.board ≡ l.fn.desk.board) × (l.desk.frames.items ≡ l.fn.desk.frames.items) × IfSome l.cursor (λ k. IsPlaceIn g.R.Rules.rule l.fn.desk.board k)
    × HoldBefore g.R.Rules.rule l.fn.desk.board (wins_within g.R.Rules.rule l.fn.contest l.fn.length l.fn.desk.board) (Some l.moves) l.place
    × AreAt l.places (filter (wins_within g.R.Rules.rule l.fn.contest l.fn.length l.fn.desk.board) (legal_moves g.R.Rules.rule l.fn.desk.board))
    (filter (wins_within g.R.Rules.rule l.fn.contest l.fn.length l.fn.desk.board) (moves_after g.R.Rules.rule l.fn.desk.board l.place))

abbrev pub decreases-loop-by : goal.decreases-loop-by
decreases-loop-by g l = length (moves_after g.R.Rules.rule l.fn.desk.board l.place)
