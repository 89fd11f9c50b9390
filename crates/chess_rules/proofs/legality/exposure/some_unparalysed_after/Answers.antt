use Rattle.chess_rules.proofs.Chess.{arith, refl}
use Rattle.chess_attacks.proofs.HoldTaken.{none_fails, one_fails, meet_next}
use Rattle.chess_rules.proofs.legality.exposure.some_unparalysed_after.Goals as goal

pub returns-then-not-is_paralysed_after : goal.returns-then-not-is_paralysed_after
returns-then-not-is_paralysed_after g c = λ men arrived others. grind (arith, one_fails)

pub loop-square-preserved : goal.loop-square-preserved
loop-square-preserved g c = λ men arrived others. grind (arith, meet_next)

pub returns : goal.returns
returns g c = λ men arrived others. none_fails _ _ _ _ (c.loop-square.invariant men arrived others) c.in_default.ensures.none refl
