use Rattle.chess_attacks.proofs.Bits.{on_left, on_right}
use Rattle.chess_attacks.proofs.HoldTaken.{taken_map, taken_on}
use Rattle.chess_reach.proofs.ways.spread_pawns.Goals as goal

pub loop-from-preserved : goal.loop-from-preserved
loop-from-preserved c = record {
  kept = λ t on. on_left _ _ t (c.loop-from.invariant.kept t on);
  taken = taken_on _ _ _ _ _ _ (taken_map _ _ _ _ (λ s h takes t on small go. on_left _ _ t (h takes t on small go)) c.loop-from.invariant.taken) c.pop_first.ensures.taken
      c.in-Some.is (λ takes t on small go. on_right _ _ t (c.pawn_targets-more.ensures takes t on small go));
}
