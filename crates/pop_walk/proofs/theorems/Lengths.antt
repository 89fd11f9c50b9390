-- More moves never harm, and the least length is the least.
use Rattle.pop_walk.proofs.Words.{Battle, Game, arith, cases_lt, false, false≢true, is_lost, is_self_lost, keeps_win, least_moves, self_wins, some_move, suc, true, wins, wins_in, zero, ℕ, ◌<◌, ◌↔◌, ◌≡◌, ◌≤◌, rules}
use Rattle.pop_walk.proofs.Longer.{climbs, first_at_most, first_is_first, first_meets, is_lost-more, is_self_lost-more, self_wins-more, wins-more}

module _ {P M : Type 0} (game : Game P M) where
  -- If the other side reaches the goal within j further moves, it does so within any greater number.
  pub lost_within_more : (j n : ℕ) (q : P) → j ≤ n → is_lost game j q ≡ true → is_lost game n q ≡ true
  lost_within_more j n q le h = climbs (λ k. is_lost game k q) (λ k. is_lost-more game k q) j n le h

  -- If the side to move reaches the goal within k moves, it does so within any greater number.
  pub wins_within_more : (k n : ℕ) (p : P) → k ≤ n → wins game k p ≡ true → wins game n p ≡ true
  wins_within_more k n p le h = climbs (λ k. wins game k p) (λ k. wins-more game k p) k n le h

  -- If the side to move forces the other side to reach the goal within k moves, it does so within any
  -- greater number.
  pub self_wins_within_more : (k n : ℕ) (p : P) → k ≤ n → self_wins game k p ≡ true → self_wins game n p ≡ true
  self_wins_within_more k n p le h = climbs (λ k. self_wins game k p) (λ k. self_wins-more game k p) k n le h

  -- If the other side is forced to reach the goal within j further moves, it is so within any greater number.
  pub self_lost_within_more : (j n : ℕ) (q : P) → j ≤ n → is_self_lost game j q ≡ true → is_self_lost game n q ≡ true
  self_lost_within_more j n q le h = climbs (λ k. is_self_lost game k q) (λ k. is_self_lost-more game k q) j n le h

  -- In both battles: if White, to move, wins, White wins within any greater number of moves.
  pub wins_in_more : (battle : Battle) (k n : ℕ) (p : P) → k ≤ n → wins_in battle game k p ≡ true → wins_in battle game n p ≡ true
  wins_in_more battle k n p le h = grind (arith, wins_within_more, self_wins_within_more)

  -- In both battles: a move that keeps the win within n moves keeps it within any greater number.
  pub keeps_more : (battle : Battle) (k n : ℕ) (q : P) → k ≤ n → keeps_win battle game k q ≡ true → keeps_win battle game n q ≡ true
  keeps_more battle k n q le h = grind (arith, lost_within_more, self_lost_within_more)

  -- Within no move nobody wins.
  pub no_win_in_none : (battle : Battle) (p : P) → wins_in battle game 0 p ≡ false
  unfolding wins self_wins
  no_win_in_none battle p = grind arith

  -- White wins within n moves exactly if some legal move keeps the win within n.
  pub wins_by_a_move : (battle : Battle) (n : ℕ) (p : P) → 1 ≤ n → wins_in battle game n p ≡ some_move game (keeps_win battle game n) p
  unfolding wins self_wins is_self_lost
  wins_by_a_move battle zero p some = absurd (omega (arith, some))
  wins_by_a_move battle (suc k) p some = grind arith

  module _ (battle : Battle) where
    -- The least number is at most n.
    pub least_at_most : (n : ℕ) (p : P) → least_moves battle game n p ≤ n
    least_at_most n p = omega (arith, first_at_most (λ k. wins_in battle game k p) n)

    -- Within fewer moves than the least number White doesn't win.
    pub no_win_below_least : (n k : ℕ) (p : P) → k < least_moves battle game n p → wins_in battle game k p ≡ false
    no_win_below_least n k p less = first_is_first (λ k. wins_in battle game k p) n k less

    -- If White wins within n moves, White wins within the least number.
    pub wins_in_least : (n : ℕ) (p : P) → wins_in battle game n p ≡ true → wins_in battle game (least_moves battle game n p) p ≡ true
    wins_in_least n p h = first_meets (λ k. wins_in battle game k p) n h

    -- If White wins within n moves, White wins within a number exactly if it is at least the least one.
    pub wins_exactly_from_least : (n k : ℕ) (p : P) → wins_in battle game n p ≡ true → (wins_in battle game k p ≡ true) ↔ (least_moves battle game n p ≤ k)
    wins_exactly_from_least n k p h = grind (arith, wins_in_more, wins_in_least n p h, cases_lt k (least_moves battle game n p), false≢true, no_win_below_least)

    -- The least number doesn't depend on the bound n, as long as White wins within n.
    pub least_is_one : (n m : ℕ) (p : P) → wins_in battle game n p ≡ true → wins_in battle game m p ≡ true
        → least_moves battle game n p ≡ least_moves battle game m p
    least_is_one n m p h w =
        search (rules, wins_exactly_from_least n (least_moves battle game m p) p h, wins_in_least m p w, wins_exactly_from_least, wins_in_least n p h)
