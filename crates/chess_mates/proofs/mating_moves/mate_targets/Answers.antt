use Rattle.chess_mates.proofs.Chess.{rules}
use Rattle.chess_mates.proofs.StandingFlights.{no_mate_off}
use Rattle.chess_mates.proofs.mating_moves.mate_targets.Goals as goal

pub returns : goal.returns
returns g c = λ m from small off.
    no_mate_off _ _ m _ _ _ c.near_check_targets-checks.ensures (λ away. c.mating_squares.ensures m from small away) from small (search rules)
