use Rattle.chess_threats.proofs.Chess.{off_left, off_right, rules, taken_map, taken_on}
use Rattle.chess_threats.proofs.safe_steps.doubtful_among.Goals as goal

pub loop-to-preserved : goal.loop-to-preserved
loop-to-preserved c =
    taken_on _ _ _ _ _ _ (taken_map _ _ _ _ (λ t h off. h (search (rules, off_left))) c.loop-to.invariant)
    c.pop_first.ensures.taken c.in-Some.is (λ off. search (rules, off_right, c.doubtful_step-more.ensures))
