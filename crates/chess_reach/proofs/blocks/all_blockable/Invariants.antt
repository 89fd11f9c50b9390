use Rattle.std.proofs.Common.{true, ℕ, ◌<◌, ◌==◌, ◌≡◌, slice_index_or}
use Rattle.std.specs.Int.{bit_at}
use Rattle.chess_reach.proofs.blocks.all_blockable.Given as goal

abbrev pub invariant-loop-n : goal.invariant-loop-n
invariant-loop-n l = (n t : ℕ) → n < l.n → (bit_at (slice_index_or l.blocks n 0) t == 1) ≡ true → (bit_at l.all t == 1) ≡ true
