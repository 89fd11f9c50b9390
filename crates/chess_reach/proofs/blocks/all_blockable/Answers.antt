use Rattle.std.proofs.Common.{arith, inl, inr, subst, true, ◌==◌, ◌≡◌, slice_index_or}
use Rattle.std.proofs.lemmas.Bool.{cases_eq}
use Rattle.std.specs.Int.{bit_at}
use Rattle.chess_attacks.proofs.Bits.{on_left, on_right}
use Rattle.chess_reach.proofs.blocks.all_blockable.Goals as goal

pub loop-n-preserved : goal.loop-n-preserved
loop-n-preserved c n t lt on = elim (cases_eq n c.loop-n.n) [
  | inl same ↦ on_right _ _ t (subst (λ m. (bit_at (slice_index_or c.args.blocks.now m 0) t == 1) ≡ true) same on)
  | inr off ↦ on_left _ _ t (c.loop-n.invariant n t (omega (arith, lt, off)) on)
]
