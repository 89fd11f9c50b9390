use Rattle.std.proofs.Common.{arith, inl, inr, length, subst, sym, true, ◌<◌, ◌==◌, ◌∙◌, ◌≡◌, bit_or, slice_index_or, slice_set}
use Rattle.std.proofs.lemmas.Bool.{cases_eq}
use Rattle.std.proofs.lemmas.List.{length-set}
use Rattle.std.specs.Int.{bit_at}
use Rattle.chess_reach.proofs.Blocking.{added_kept, added_there}
use Rattle.chess_reach.specs.ties.Whereabouts.{has}
use Rattle.chess_reach.specs.ties.Ways.{nowhere}
use Rattle.chess_reach.proofs.blocks.add_man.Goals as goal

pub loop-n-preserved : goal.loop-n-preserved
loop-n-preserved c =
    let room : c.loop-n.n < length c.loop-n.blocks = omega (arith, c.loop-n.invariant.size, c.loop-n-test.true) in
    record {
      size = length-set _ _ _ ∙ c.loop-n.invariant.size;
      kept = λ n t on. added_kept c.loop-n.blocks c.loop-n.n c.anywhere-squares.result n t room (c.loop-n.invariant.kept n t on);
      added = λ k j n t lt had. elim (cases_eq n c.loop-n.n) [
        | inl same ↦ subst (λ m. (bit_at (slice_index_or (slice_set c.loop-n.blocks c.loop-n.n (bit_or (slice_index_or c.loop-n.blocks c.loop-n.n 0) c.anywhere-squares.result)) m 0) t == 1) ≡ true)
            (sym same) (added_there c.loop-n.blocks c.loop-n.n c.anywhere-squares.result t room
            (c.anywhere-squares.ensures k j t (subst (λ m. has k j t (slice_index_or c.args.chain.now m nowhere) ≡ true) same had)))
        | inr off ↦ added_kept c.loop-n.blocks c.loop-n.n c.anywhere-squares.result n t room (c.loop-n.invariant.added k j n t (omega (arith, lt, off)) had)
      ];
    }
