use Rattle.chess_threats.proofs.Chess.{arith, rules}
use Rattle.chess_threats.proofs.SafeSteps.{safe_step}
use Rattle.chess_threats.proofs.safe_steps.is_safe_step.Goals as goal

pub returns : goal.returns
returns c = λ yes empty.
    safe_step _ _ _ _ c.requires.guarded c.requires.plain (omega arith) c.adjacent_squares.ensures (search rules) _ _ c.requires.targets
    c.only.ensures (omega arith) (omega arith) (search (rules, yes)) empty
