use Rattle.pop_tries.proofs.Words.{Contains, Move, filter, legal_moves, length, true, ◌≡◌, ◌⊎◌}
use Rattle.chess_flights.specs.ties.Mates.{is_mating, mates_after}
use Rattle.chess_mates.specs.ties.MatingPlaces.{IsMatingPlaceIn}
use Rattle.pop_tries.specs.ties.FewPlaces.{AreAt}
use Rattle.pop_tries.specs.ties.MoveSets.{may_hold}
use Rattle.pop_tries.proofs.threats.mating_moves.Given as goal

-- the mating moves so far are held, and noted
abbrev pub invariant-loop-by : goal.invariant-loop-by
invariant-loop-by g l = (l.board ≡ l.fn.board) × IsMatingPlaceIn g.R.Rules.rule l.fn.board l.mates
    × ((m : Move) → Contains (filter (is_mating g.R.Rules.rule l.fn.board) (legal_moves g.R.Rules.rule l.fn.board)) m
    → (may_hold l.moves m ≡ true) ⊎ Contains (mates_after g.R.Rules.rule l.fn.board l.mates.place) m)
    × AreAt l.places (filter (is_mating g.R.Rules.rule l.fn.board) (legal_moves g.R.Rules.rule l.fn.board)) (mates_after g.R.Rules.rule l.fn.board l.mates.place)

abbrev pub decreases-loop-by : goal.decreases-loop-by
decreases-loop-by g l = length (mates_after g.R.Rules.rule l.fn.board l.mates.place)
