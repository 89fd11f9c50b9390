use Rattle.std.proofs.Common.{length, true, ℕ, ◌<◌, ◌==◌, ◌≡◌, slice_index_or}
use Rattle.std.specs.Int.{bit_at}
use Rattle.chess_core.specs.declared.man.Kind.{Kind}
use Rattle.chess_reach.specs.ties.Whereabouts.{has}
use Rattle.chess_reach.specs.ties.Ways.{nowhere}
use Rattle.chess_reach.proofs.blocks.add_man.Given as goal

abbrev pub invariant-loop-n : goal.invariant-loop-n
invariant-loop-n l = record {
  size : length l.blocks ≡ 9;
  kept : (n t : ℕ) → (bit_at (slice_index_or l.fn.blocks n 0) t == 1) ≡ true → (bit_at (slice_index_or l.blocks n 0) t == 1) ≡ true;
  added : (k j : Kind) (n t : ℕ) → n < l.n → has k j t (slice_index_or l.chain n nowhere) ≡ true → (bit_at (slice_index_or l.blocks n 0) t == 1) ≡ true;
}
