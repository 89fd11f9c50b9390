use Rattle.pop_parts.proofs.Words.{array_vec_len, length, take, ◌-◌, ◌≡◌, ◌≤◌}
use Rattle.pop_parts.proofs.remaining_parts.copy_of.Given as goal

abbrev pub invariant-loop-k : goal.invariant-loop-k
invariant-loop-k g l = (l.copy.items ≡ take l.k l.frames.items) × (array_vec_len l.copy ≡ l.k) × (l.k ≤ length l.frames.items)

abbrev pub decreases-loop-k : goal.decreases-loop-k
decreases-loop-k g l = length l.frames.items - l.k
