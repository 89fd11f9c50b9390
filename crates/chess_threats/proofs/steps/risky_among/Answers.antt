use Rattle.chess_threats.proofs.Chess.{arith, inr}
use Rattle.chess_threats.proofs.SafeSteps.{spared_step}
use Rattle.chess_threats.proofs.steps.risky_among.Goals as goal

pub returns-then-empty-eq0 : goal.returns-then-empty-eq0
returns-then-empty-eq0 g c = λ t small on off. inr (c.flightless_steps-flightless.ensures t small on off)

pub returns : goal.returns
returns g c = λ t small on off.
    spared_step _ _ _ _ _ t (omega arith) small (c.flightless_steps-flightless.ensures t small on) (c.doubtful_steps-doubtful.ensures t small)
    (c.critical_steps.ensures t small) off
