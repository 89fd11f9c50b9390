use Rattle.chess_mates.proofs.Chess.{rules}
use Rattle.chess_flights.proofs.Fleeing.{step_to}
use Rattle.chess_flights.proofs.Mating.{one_fails}
use Rattle.chess_mates.proofs.QuietSteps.{step_legal}
use Rattle.chess_mates.proofs.every_move.steps_quietly.Goals as goal

pub returns : goal.returns
returns g c = λ h.
    one_fails _ _ (step_to c.in-Some.from c.in-Some-first_unreached.to) c.requires.well_formed (search (rules, step_legal)) (c.is_quiet.ensures h)
