use Rattle.chess_mates.proofs.FarMen.{AreFar}
use Rattle.chess_flights.proofs.Hurdles.{IsRest}
use Rattle.chess_mates.proofs.origins.far_men.Given as goal

abbrev pub invariant-loop-from : goal.invariant-loop-from
invariant-loop-from g l = record { rest : IsRest l.men l.rest; far : AreFar g.R.Rules.rule l.board l.far }

abbrev pub decreases-loop-from : goal.decreases-loop-from
decreases-loop-from g l = l.rest
