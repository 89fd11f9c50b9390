-- Sums over the squares, before and after a man has moved.
use Rattle.chess_reach.proofs.Chess.{List, [], arith, cases_eq, cond-false, cond-true, range_with_len, refl, squares, suc, zero, ℕ, ◌+◌, ◌<◌, ◌==◌, ◌∷◌, ◌≡◌, ◌≢◌, ◌≤◌, if◌then◌else◌, eq-eqb, ne_eqb}
use Rattle.std.specs.List.{sum_by}
use Rattle.std.proofs.lemmas.List.Sums.{sum_by-cons, sum_by-le-sum_by}

-- a sum of zeros
pub sum_of_zeros : (f : ℕ → ℕ) (xs : List ℕ) → ((s : ℕ) → f s ≡ 0) → sum_by f xs ≡ 0
sum_of_zeros f [] none = refl
sum_of_zeros f (x ∷ xs) none = omega (arith, sum_by-cons f x xs, sum_of_zeros f xs none, none x)

-- a sum of sums
sum_both : (f g : ℕ → ℕ) (xs : List ℕ) → sum_by (λ s. f s + g s) xs ≡ sum_by f xs + sum_by g xs
sum_both f g [] = refl
sum_both f g (x ∷ xs) = omega (arith, sum_by-cons (λ s. f s + g s) x xs, sum_by-cons f x xs, sum_by-cons g x xs, sum_both f g xs)

-- something on one square alone
abbrev only : ℕ → ℕ → ℕ → ℕ
only a y s = if s == a then y else 0

only_here : (a y s : ℕ) → s ≡ a → only a y s ≡ y
only_here a y s e = cond-true (s == a) y 0 (eq-eqb s a e)

only_there : (a y s : ℕ) → s ≢ a → only a y s ≡ 0
only_there a y s ne = cond-false (s == a) y 0 (ne_eqb s a ne)

sum_from : (a y n k : ℕ) → a < n → sum_by (only a y) (range_with_len n k) ≡ 0
sum_from a y n zero lt = refl
sum_from a y n (suc k) lt =
    omega (arith, sum_by-cons (only a y) n (range_with_len (n + 1) k), only_there a y n (omega arith), sum_from a y (n + 1) k (omega arith))

sum_only : (a y n k : ℕ) → n ≤ a → a < n + k → sum_by (only a y) (range_with_len n k) ≡ y
sum_only a y n zero low high = absurd (omega arith)
sum_only a y n (suc k) low high =
    grind (
      arith,
      cases_eq n a,
      sum_by-cons (only a y) n (range_with_len (n + 1) k),
      only_here a y n,
      only_there a y n,
      sum_from a y (n + 1) k,
      sum_only a y
          (n + 1) k,
    )

-- what one square had goes to another, and n come on top
pub sum_moved : (f g : ℕ → ℕ) (a b n : ℕ) → a < 64 → b < 64 → a ≢ b → f a ≤ n + g b → f b ≡ 0 → ((s : ℕ) → s ≢ a → s ≢ b → f s ≤ g s)
    → sum_by f squares ≤ n + sum_by g squares
unfolding squares
sum_moved f g a b n sa sb apart here there others =
    omega (
      arith,
      sum_by-le-sum_by (λ s. f s + only b (g b) s) (λ s. g s + only a (f a) s) (range_with_len 0 64) pointwise,
      sum_both f (only b (g b)) (range_with_len 0 64),
      sum_both g (only a (f a)) (range_with_len 0 64),
      sum_only a (f a) 0 64 (omega arith) (omega arith),
      sum_only b (g b) 0 64 (omega arith) (omega arith),
    )
  where
    pointwise : (s : ℕ) → f s + only b (g b) s ≤ g s + only a (f a) s
    pointwise s = grind (arith, cases_eq s a, cases_eq s b, only_here b (g b) s, only_there b (g b) s, only_here a (f a) s, only_there a (f a) s, others s)

-- where nothing grows, the sum doesn't
pub sum_grows : (f g : ℕ → ℕ) → ((s : ℕ) → f s ≤ g s) → sum_by f squares ≤ sum_by g squares
sum_grows f g each = sum_by-le-sum_by f g squares each
