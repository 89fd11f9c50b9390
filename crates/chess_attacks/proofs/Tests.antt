-- Conjunctions of tests, and tests over ranges of numbers.
use Rattle.chess_attacks.proofs.Basics.{Bool, List, None, Some, [], and_from, and_parts, arith, cases_Bool, cases_eq, false, false≢true, find, inr, list_all, list_any, not, or_cases, or_left, or_right, range_with_len, refl, rules, suc, true, zero, ℕ, ◌&&◌, ◌+◌, ◌<◌, ◌==◌, ◌||◌, ◌∷◌, ◌≡◌, ◌≤◌, ◌⊎◌}

-- where two tests are both met, the first is
pub first_of_and : (a b : Bool) → (a && b) ≡ true → a ≡ true
first_of_and a b h = grind arith

-- where two tests are both met, the second is
pub second_of_and : (a b : Bool) → (a && b) ≡ true → b ≡ true
second_of_and a b h = grind (arith, false≢true)

-- what holds of all numbers of a range holds of each
pub all_at : (p : ℕ → Bool) (a n k : ℕ) → list_all p (range_with_len a n) ≡ true → a ≤ k → k < a + n → p k ≡ true
all_at p a zero k h lo hi = absurd (omega arith)
all_at p a (suc n) k h lo hi = grind (arith, cases_eq k a, first_of_and (p a), second_of_and (p a), all_at p (a + 1) n k)

-- where the first test is met and implies the second, the second is met
pub implied : (a b : Bool) → (not a || b) ≡ true → a ≡ true → b ≡ true
implied a b h e = grind (arith, false≢true)

-- two tests agree if each is met where the other is
pub same_Bool : (a b : Bool) → (a ≡ true → b ≡ true) → (b ≡ true → a ≡ true) → a ≡ b
same_Bool a b f g = grind arith

-- what holds of each holds of all, and what of one of some
pub all_kept : {A : Type 0} (f g : A → Bool) (xs : List A) → ((x : A) → f x ≡ true → g x ≡ true) → list_all f xs ≡ true → list_all g xs ≡ true
all_kept f g [] each h = refl
all_kept f g (x ∷ xs) each h = search (rules, each, all_kept f g xs each, and_parts, and_from)

-- where one test implies another, some element meets the second if some meets the first
pub any_kept : {A : Type 0} (f g : A → Bool) (xs : List A) → ((x : A) → f x ≡ true → g x ≡ true) → list_any f xs ≡ true → list_any g xs ≡ true
any_kept f g [] each h = h
any_kept f g (x ∷ xs) each h = search (rules, each, any_kept f g xs each, or_cases, or_left, or_right)

-- two numbers that differ fail the test of equality
pub differs : (a b : ℕ) → (a ≡ b → ⊥) → (a == b) ≡ false
differs a b ne = search rules

-- either some number of the range meets the test or none does
pub any_range_cases : (p : ℕ → Bool) (a n : ℕ) → ((k : ℕ) × (a ≤ k) × (k < a + n) × (p k ≡ true)) ⊎ ((k : ℕ) → a ≤ k → k < a + n → p k ≡ false)
any_range_cases p a zero = inr (λ k lo hi. absurd (omega arith))
any_range_cases p a (suc n) = grind (arith, cases_Bool (p (a + n)), any_range_cases p a n, cases_eq)

-- tests that agree on a range
pub any_range_same : (p q : ℕ → Bool) (a n : ℕ) → ((k : ℕ) → a ≤ k → k < a + n → p k ≡ q k) → list_any p (range_with_len a n) ≡ list_any q (range_with_len a n)
any_range_same p q a zero h = refl
any_range_same p q a (suc n) h = grind (arith, h a, any_range_same p q (a + 1) n)

-- k is the first number of the range that meets the test
pub record IsFirst (p : ℕ → Bool) (a n k : ℕ) : Type 0 where
  pub low : a ≤ k
  pub high : k < a + n
  pub here : p k ≡ true
  pub before : (j : ℕ) → a ≤ j → j < k → p j ≡ false

-- what two equal options hold is equal
pub some_is : (a b : ℕ) → Some a ≡ Some b → a ≡ b
some_is a b h = cc

-- what `find` gives is the first of the range that meets the test
pub find_first : (p : ℕ → Bool) (a n k : ℕ) → find p (range_with_len a n) ≡ Some k → IsFirst p a n k
find_first p a zero k h = absurd (let bad : None ≡ Some k = h in cc)
find_first p a (suc n) k h = grind (arith, cases_Bool (p a), find_first p (a + 1) n k, cases_eq)

-- where `find` gives nothing, no number of the range meets the test
pub find_no : (p : ℕ → Bool) (a n k : ℕ) → find p (range_with_len a n) ≡ None → a ≤ k → k < a + n → p k ≡ false
find_no p a zero k h lo hi = absurd (omega arith)
find_no p a (suc n) k h lo hi = grind (arith, cases_Bool (p a), cases_eq k a, find_no p (a + 1) n k)
