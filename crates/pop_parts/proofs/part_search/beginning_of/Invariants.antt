use Rattle.pop_parts.proofs.Words.{array_vec_len, length, path, reverse, take, ◌+◌, ◌-◌, ◌≡◌, ◌≤◌}
use Rattle.pop_parts.proofs.part_search.beginning_of.Given as goal

abbrev pub invariant-loop-k : goal.invariant-loop-k
invariant-loop-k g l = (l.beginning.items ≡ path (reverse (take l.k l.frames.items))) × (array_vec_len l.beginning + 1 ≡ l.k) × (l.k ≤ length l.frames.items)

abbrev pub decreases-loop-k : goal.decreases-loop-k
decreases-loop-k g l = length l.frames.items - l.k
