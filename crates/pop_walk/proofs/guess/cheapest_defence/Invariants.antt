use Rattle.pop_walk.proofs.Words.{IfSome, IsPlaceIn, length, moves_after, ◌≡◌}
use Rattle.pop_walk.proofs.guess.cheapest_defence.Given as goal

-- the board stands as it was, and what is known is of its moves
abbrev pub invariant-loop-by : goal.invariant-loop-by
invariant-loop-by g l = (l.copy ≡ l.fn.board) × IfSome l.cursor (λ k. IsPlaceIn g.R.Rules.rule l.fn.board k)

abbrev pub decreases-loop-by : goal.decreases-loop-by
decreases-loop-by g l = length (moves_after g.R.Rules.rule l.fn.board l.place)
