use Rattle.chess_threats.proofs.Chess.{off_left, off_right, taken_map, taken_next}
use Rattle.chess_threats.proofs.risk.risk_together.Goals as goal

pub loop-from-preserved : goal.loop-from-preserved
loop-from-preserved c =
    taken_next _ _ _ _ _ (taken_map _ _ _ _ (λ s h. record {
      mild = λ a b small inside off. h.mild a b small inside (record { lines = λ on. off_left _ _ a (off.lines on); critical = off_left _ _ b off.critical });
    }) c.loop-from.invariant) c.in-Some.ensures.taken (record {
      mild = λ a b small inside off. c.risk_from-more.ensures.mild a b small inside
          (record { lines = λ on. off_right _ _ a (off.lines on); critical = off_right _ _ b off.critical });
    })
