use Rattle.chess_threats.proofs.Chess.{rules}
use Rattle.chess_flights.proofs.CalmSteps.{seen_from}
use Rattle.chess_threats.proofs.quiet_steps.QuietSteps.follow.Goals as goal

pub steps_quietly-requires-clause-seen : goal.steps_quietly-requires-clause-seen
steps_quietly-requires-clause-seen g c =
    seen_from _ _ _ _ _ c.requires.well_formed c.requires.legal (search rules) (search rules) (search rules)
