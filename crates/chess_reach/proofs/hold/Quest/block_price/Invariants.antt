use Rattle.std.proofs.Common.{false, ℕ, ◌-◌, ◌<◌, ◌==◌, ◌≡◌, slice_index_or}
use Rattle.std.specs.Int.{bit_at}
use Rattle.chess_reach.proofs.hold.Quest.block_price.Given as goal

abbrev pub invariant-loop-moves : goal.invariant-loop-moves
invariant-loop-moves l = (n : ℕ) → n < l.moves → (bit_at (slice_index_or l.self.blockable n 0) l.square == 1) ≡ false

abbrev pub decreases-loop-moves : goal.decreases-loop-moves
decreases-loop-moves l = 9 - l.moves
