use Rattle.chess_attacks.proofs.Bits.{on_left}
use Rattle.chess_attacks.proofs.HoldTaken.{taken_map, taken_on}
use Rattle.chess_reach.proofs.Getting.{reached_left, reached_right}
use Rattle.chess_reach.proofs.ways.spread_each.Goals as goal

pub loop-from-preserved : goal.loop-from-preserved
loop-from-preserved c = record {
  kept = λ t on. on_left _ _ t (c.loop-from.invariant.kept t on);
  taken = taken_on _ _ _ _ _ _ (taken_map _ _ _ _ (λ s h. reached_left _ s _ _ h) c.loop-from.invariant.taken) c.pop_first.ensures.taken c.in-Some.is
      (reached_right _ _ _ _ c.unblocked_reach-more.ensures);
}
