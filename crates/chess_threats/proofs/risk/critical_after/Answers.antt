use Rattle.chess_threats.proofs.Chess.{off_left, off_right, taken_map, taken_next}
use Rattle.chess_threats.proofs.risk.critical_after.Goals as goal

pub loop-to-preserved : goal.loop-to-preserved
loop-to-preserved c =
    taken_next _ _ _ _ _ (taken_map _ _ _ _ (λ t h. record {
      left = λ b small off there. h.left b small (off_left _ _ b off) there;
    }) c.loop-to.invariant) c.in-Some.ensures.taken (record {
      left = λ b small off there. c.critical_with-more.ensures.left b small (off_right _ _ b off) there;
    })
