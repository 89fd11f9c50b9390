use Rattle.chess_threats.proofs.Chess.{arith}
use Rattle.chess_threats.proofs.steps.cached_risky_steps.Goals as goal

pub returns-then-cache-reborn-clause-risky : goal.returns-then-cache-reborn-clause-risky
returns-then-cache-reborn-clause-risky g c = λ t small on off.
    c.requires.cache.reported g.R.Rules.rule (grind arith) (grind arith) t small (rw c.if-cache-steps.true on) off
