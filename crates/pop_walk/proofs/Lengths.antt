-- Rising lengths.
use Rattle.pop_walk.proofs.Words.{Battle, Game, arith, false, least_length_from, refl, rules, suc, true, value, zero, ℕ, ◌+◌, ◌-◌, ◌/◌, ◌≡◌, ◌≤◌}

module _ {P M : Type 0} (battle : Battle) (game : Game P M) (q : P) where
  -- a length that fails hands on to the next
  pub next_length : (left a : ℕ) → a + 2 ≤ left → value battle game a q ≡ false
      → least_length_from battle game q ((left - (a + 2)) / 2) (a + 2) ≡ least_length_from battle game q ((left - a) / 2) a
  unfolding least_length_from
  next_length left a h e = let more : (left - a) / 2 ≡ suc ((left - (a + 2)) / 2) = omega (arith, h) in rw (more, e) refl

  -- a length that holds in the end is found as early with more tries
  pub length-more : (n k a : ℕ) → value battle game (a + (n + n)) q ≡ true → n ≤ k → least_length_from battle game q k a ≡ least_length_from battle game q n a
  unfolding least_length_from
  length-more zero zero a e h = search rules
  length-more zero (suc k) a e h = search rules
  length-more (suc n) zero a e h = absurd (omega (arith, h))
  length-more (suc n) (suc k) a e h = search (rules, length-more n k (a + 2))
