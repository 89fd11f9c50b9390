-- A win within n moves is a win within n + 1.
use Rattle.pop_walk.proofs.Words.{Bool, Game, List, [], arith, can_move, cases_lt, every_move, fails_before_first, false, is_lost, is_self_lost, list_all, list_any, passes_at_first, position_or_len, prefix_len-le-length, range_with_len, rules, self_wins, suc, true, wins, zero, ℕ, ◌&&◌, ◌<◌, ◌||◌, ◌∷◌, ◌≡◌, ◌≤◌}
use Rattle.std.proofs.lemmas.List.FromFn.{get_or-range_with_len, length-range_with_len}

module _ {X : Type 0} (f g : X → Bool) (weaker : (x : X) → f x ≡ true → g x ≡ true) where
  any_weaker : (xs : List X) → list_any f xs ≡ true → list_any g xs ≡ true
  any_weaker [] h = h
  any_weaker (x ∷ xs) h = search (rules, any_weaker xs, weaker)

  all_weaker : (xs : List X) → list_all f xs ≡ true → list_all g xs ≡ true
  all_weaker [] h = h
  all_weaker (x ∷ xs) h = search (rules, all_weaker xs, weaker)

module _ {P M : Type 0} (game : Game P M) where
  -- a side that loses within some moves loses within more
  pub is_lost-more : (j : ℕ) (q : P) → is_lost game j q ≡ true → is_lost game (suc j) q ≡ true
  unfolding is_lost
  is_lost-more zero q h = search rules
  is_lost-more (suc j) q h = search (rules, all_weaker, any_weaker, is_lost-more j)

  -- a side that wins within some moves wins within more
  pub wins-more : (k : ℕ) (p : P) → wins game k p ≡ true → wins game (suc k) p ≡ true
  unfolding wins
  wins-more k p h = search (rules, any_weaker, is_lost-more)

  -- after Black's move White wins, or Black has reached the goal
  won-more : (f g : P → Bool) → ((r : P) → f r ≡ true → g r ≡ true) → (q : P)
      → (can_move game q && every_move game (λ r. game.goal r || f r) q) ≡ true → (can_move game q && every_move game (λ r. game.goal r || g r) q) ≡ true
  won-more f g w q h = search (rules, all_weaker)

  -- in a selfmate White also wins in one move more
  pub self_wins-more : (k : ℕ) (p : P) → self_wins game k p ≡ true → self_wins game (suc k) p ≡ true
  unfolding self_wins
  self_wins-more zero p h = absurd cc
  self_wins-more (suc k) p h = search (rules, any_weaker, all_weaker, self_wins-more k)

  -- in a selfmate Black also loses in one move more
  pub is_self_lost-more : (j : ℕ) (q : P) → is_self_lost game j q ≡ true → is_self_lost game (suc j) q ≡ true
  unfolding is_self_lost
  is_self_lost-more j q h = won-more (self_wins game j) (self_wins game (suc j)) (self_wins-more j) q h

-- what holds a step on holds of each greater number
pub climbs : (f : ℕ → Bool) → ((k : ℕ) → f k ≡ true → f (suc k) ≡ true) → (k n : ℕ) → k ≤ n → f k ≡ true → f n ≡ true
climbs f up k zero le h = let s : k ≡ 0 = omega (arith, le) in rw s at h
climbs f up k (suc n) le h = search (rules, cases_lt k (suc n), up n, climbs f up k n)

-- the first number that meets a test, looked for below n
module _ (test : ℕ → Bool) (n : ℕ) where
  -- the first number that meets the test is at most their count
  pub first_at_most : position_or_len test (range_with_len 0 n) ≤ n
  first_at_most = search (rules, length-range_with_len, prefix_len-le-length)

  -- no lower number meets the test
  pub first_is_first : (k : ℕ) → k < position_or_len test (range_with_len 0 n) → test k ≡ false
  first_is_first k less = search (rules, get_or-range_with_len, length-range_with_len, fails_before_first test (range_with_len 0 n) k 0, first_at_most)

  -- the first number that is found meets the test, if the count does
  pub first_meets : test n ≡ true → test (position_or_len test (range_with_len 0 n)) ≡ true
  first_meets h = search (rules, cases_lt, get_or-range_with_len, length-range_with_len, passes_at_first test (range_with_len 0 n) 0, first_at_most)
