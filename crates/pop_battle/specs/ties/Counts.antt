-- The number of positions that a search has to try at least (own).
use Rattle.std.specs.Prelude.{ℕ, zero, suc, ◌+◌, ◌-◌, ◌≤◌, ◌^◌, min, Bool, if◌then◌else◌, List, [], ◌∷◌}
use Rattle.std.specs.List.{sum_by}
use Rattle.pop_stipulation.specs.declared.stipulation.Battle.{Battle}
use Rattle.pop_battle.specs.Game.{Game, can_move}
use Rattle.pop_battle.specs.ties.Values.{decides, attacker_to_move, value}

-- the count rose from `before` to `after` by at least `least`, up to the greatest u64
abbrev pub HasCounted : ℕ → ℕ → ℕ → Type 0
HasCounted before after least = min (before + least) (2 ^ 64 - 1) ≤ after

module _ {M : Type 0} where
  -- the least of n and of the values f of the moves that meet the test
  unfoldable pub least_of : (M → Bool) → (M → ℕ) → ℕ → List M → ℕ
  least_of test f n [] = n
  least_of test f n (m ∷ ms) = if test m then min (f m) (least_of test f n ms)
      else least_of test f n ms

module _ {P M : Type 0} where
  -- the move m, after which t half-moves are left, decides p
  abbrev pub decided_by : Battle → Game P M → ℕ → P → M → Bool
  decided_by battle game t p m = decides (attacker_to_move battle (suc t))
      (value battle game t (game.after p m))

  -- the number of positions in a smallest tree that decides p with t half-moves left: none if no half-move
  -- or no move is left; otherwise p itself, with those after one deciding move or with those after all
  -- moves
  unfoldable pub smallest_tree : Battle → Game P M → ℕ → P → ℕ
  smallest_tree battle game zero p = 0
  smallest_tree battle game (suc t) p =
      if can_move game p
      then 1 + least_of (decided_by battle game t p)
      (λ m. smallest_tree battle game t (game.after p m))
      (sum_by (λ m. smallest_tree battle game t (game.after p m)) (game.moves p)) (game.moves p)
      else 0

  -- the number of positions in a smallest tree below p, for these moves of p
  unfoldable pub smallest_below : Battle → Game P M → ℕ → P → List M → ℕ
  smallest_below battle game zero p ms = 0
  smallest_below battle game (suc t) p ms =
      least_of (decided_by battle game t p) (λ m. smallest_tree battle game t (game.after p m))
      (sum_by (λ m. smallest_tree battle game t (game.after p m)) ms) ms
