-- The smallest trees that decide a position.
use Rattle.pop_battle.proofs.Words.{Battle, Bool, Game, List, [], arith, cond, decided_by, least_of, rules, smallest_below, smallest_tree, suc, sum_by, sum_by-cons, ℕ, ◌+◌, ◌∷◌, ◌≡◌, ◌≤◌}

module _ {M : Type 0} (test : M → Bool) (f : M → ℕ) where
  least-most : (n : ℕ) (ms : List M) → least_of test f n ms ≤ n
  unfolding least_of
  least-most n [] = search rules
  least-most n (m ∷ ms) = search (rules, least-most n ms)

  least-next : (m : M) (a n : ℕ) (ms : List M) → n ≡ f m + a → least_of test f n (m ∷ ms) ≤ f m + cond (test m) 0 (least_of test f a ms)
  unfolding least_of
  least-next m a n [] e = grind arith
  least-next m a n (x ∷ ms) e = grind (arith, least-next m a n ms)

module _ {P M : Type 0} (battle : Battle) (game : Game P M) where
  -- a move that decides ends the count, another adds its tree
  pub trees-next : (t : ℕ) (p : P) (m : M) (ms : List M)
      → smallest_below battle game (suc t) p (m ∷ ms) ≤ smallest_tree battle game t (game.after p m) + cond (decided_by battle game t p m) 0
      (smallest_below battle game (suc t) p ms)
  unfolding smallest_below
  trees-next t p m ms = least-next _ _ m _ _ ms (sum_by-cons (λ m. smallest_tree battle game t (game.after p m)) m ms)

  -- none below no moves
  pub trees-end : (t : ℕ) (p : P) → smallest_below battle game t p [] ≡ 0
  unfolding smallest_below least_of
  trees-end t p = search rules

  -- a position counts one more than its moves
  pub trees-start : (t : ℕ) (p : P) → smallest_tree battle game t p ≤ 1 + smallest_below battle game t p (game.moves p)
  unfolding smallest_tree smallest_below
  trees-start t p = search rules

  -- with no half-move left nothing is tried
  pub tree-zero : (t : ℕ) (p : P) → t ≡ 0 → smallest_tree battle game t p ≡ 0
  unfolding smallest_tree
  tree-zero t p e = search rules

  nothing : (p : P) (ms : List M) → sum_by (λ m. smallest_tree battle game 0 (game.after p m)) ms ≡ 0
  nothing p [] = search rules
  nothing p (m ∷ ms) = search (rules, sum_by-cons, tree-zero, nothing p ms)

  -- with one left a single position is
  pub tree-one : (t : ℕ) (p : P) → t ≡ 1 → smallest_tree battle game t p ≤ 1
  unfolding smallest_below
  tree-one t p e = grind (arith, trees-start 1 p, least-most, game.moves p, nothing p (game.moves p))

-- for `value_at_once`: with at most one half-move left
pub ruleset shortest = (tree-zero, tree-one)
