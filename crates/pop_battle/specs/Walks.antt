-- The number of lists of moves that can be played from a position (own).
use Rattle.std.specs.Prelude.{ℕ, zero, suc, ◌+◌, List}
use Rattle.std.specs.List.{sum_by}

module _ {P M : Type 0} where
  -- the number of lists of fewer than r moves, each legal when it is played: the empty list, and for each
  -- legal move the lists of fewer than r - 1 moves that can follow it
  unfoldable pub walk_count : (P → List M) → (P → M → P) → ℕ → P → ℕ
  walk_count moves after zero p = 0
  walk_count moves after (suc r) p = 1 + sum_by (λ m. walk_count moves after r (after p m))
      (moves p)
