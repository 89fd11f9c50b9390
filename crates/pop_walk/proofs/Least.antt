-- The least length by half-moves is the least number of moves.
use Rattle.pop_walk.proofs.Words.{Bool, Game, SelfMate, arith, cond, false, least_length_from, least_moves, position_or_len, range_with_len, refl, rules, self_wins, suc, wins, zero, ℕ, ◌*◌, ◌+◌, ◌≡◌, Direct}
use Rattle.pop_walk.proofs.Battles.{value-wins, value-self_wins}

-- the first number from a on that meets the test, or the n-th after a
first_number : (ℕ → Bool) → ℕ → ℕ → ℕ
first_number test zero a = a
first_number test (suc n) a = cond (test a) a (first_number test n (a + 1))

first_number-is : (test : ℕ → Bool) (n a : ℕ) → a + position_or_len test (range_with_len a n) ≡ first_number test n a
unfolding first_number
first_number-is test zero a = search rules
first_number-is test (suc n) a = search (rules, first_number, first_number-is test n (a + 1))

first_number-shift : (test : ℕ → Bool) (n k : ℕ) → first_number (λ i. test (suc i)) n k + 1 ≡ first_number test n (k + 1)
unfolding first_number
first_number-shift test zero k = search rules
first_number-shift test (suc n) k = search (rules, first_number-shift test n (suc k))

module _ {P M : Type 0} (game : Game P M) (q : P) where
  by_twos : (n k : ℕ) → least_length_from Direct game q n (suc (2 * k)) ≡ suc (2 * (first_number (λ i. wins game (suc i) q) n k))
  unfolding least_length_from first_number
  by_twos zero k = search rules
  by_twos (suc n) k = search (rules, value-wins, by_twos n (k + 1))

  zero_loses : (n : ℕ) → first_number (λ k. wins game k q) (suc n) 0 ≡ first_number (λ k. wins game k q) n (0 + 1)
  unfolding first_number wins
  zero_loses n = refl

  -- the half-moves of the first successful test match the least number of moves
  pub least_moves-direct : (n : ℕ) → least_length_from Direct game q n 1 + 1 ≡ 2 * least_moves Direct game (suc n) q
  least_moves-direct n = search (rules, first_number, by_twos n 0, first_number-shift, first_number-is, zero_loses n)

  -- in a selfmate where the goal isn't reached, the half-moves of the first successful test match the least
  -- number of moves
  module _ (open_yet : game.goal q ≡ false) where
    by_twos_self : (n k : ℕ) → least_length_from SelfMate game q n (2 * k) ≡ 2 * (first_number (λ i. self_wins game i q) n k)
    unfolding least_length_from first_number
    by_twos_self zero k = search rules
    by_twos_self (suc n) k = grind (arith, by_twos_self n (k + 1), value-self_wins)

    -- in a selfmate the shortest length in half-moves is twice the least number of moves
    pub least_moves-selfmate : (n : ℕ) → least_length_from SelfMate game q n 2 ≡ 2 * least_moves SelfMate game (suc n) q
    unfolding first_number self_wins
    least_moves-selfmate n = search (rules, by_twos_self n 1, first_number-is)
