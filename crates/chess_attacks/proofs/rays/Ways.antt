-- Rides and hops by their number of steps.
use Rattle.chess_attacks.proofs.Chess.{Bool, List, Man, Option, Some, Step, all_at, all_range_true, along, and_from, and_parts, any_range_cases, any_range_false, any_range_true, ap, arith, eq-eqb, false≢true, first_of_and, hopped_from, hops, is_clear, is_occupied, is_square, is_vacant_at, list_all, list_any, range_with_len, refl, rides, rides_on, rules, same_Bool, second_of_and, true, ℕ, ◌&&◌, ◌+◌, ◌-◌, ◌<◌, ◌∙◌, ◌≡◌, ◌≤◌}
use Rattle.chess_attacks.proofs.rays.Ends.{back, mirrored, square_is, stays}

-- a number of the range that meets the test
found : (p : ℕ → Bool) (a n : ℕ) → list_any p (range_with_len a n) ≡ true → (k : ℕ) × (a ≤ k) × (k < a + n) × (p k ≡ true)
found p a n h = grind (arith, any_range_cases p a n, false≢true, any_range_false)

-- t is k steps from s, at least f, and every square from the f-th on is empty up to it
pub record Ride (f : ℕ) (men : List (Option Man)) (s t : ℕ) (d : Step) (k : ℕ) : Type 0 where
  pub low : f ≤ k
  pub high : k < 8
  pub at : along s d k ≡ Some t
  pub free : (j : ℕ) → f ≤ j → j < k → is_vacant_at men (along s d j) ≡ true

-- a ride takes some number of steps
pub ride_on-found : (f : ℕ) (men : List (Option Man)) (s t : ℕ) (d : Step) → rides_on f men s t d ≡ true → (k : ℕ) × Ride f men s t d k
unfolding rides_on
ride_on-found f men s t d h =
    let w = found (λ k. is_square (along s d k) t && list_all (λ i. is_vacant_at men (along s d i)) (range_with_len f (k - f))) f (8 - f) h in
    (w.0, grind (arith, square_is (along s d w.0) t, and_parts, all_at (λ i. is_vacant_at men (along s d i)) f (w.0 - f)))

-- a ride of some number of steps, from the f-th on, is a ride from there
pub ride_on-made : (f : ℕ) (men : List (Option Man)) (s t : ℕ) (d : Step) (k : ℕ) → Ride f men s t d k → rides_on f men s t d ≡ true
unfolding rides_on
ride_on-made f men s t d k r =
    any_range_true _ f (8 - f) k r.low (omega (arith, r.low, r.high)) (and_from _ _ (rw r.at (eq-eqb t t refl))
    (all_range_true _ f (k - f) (λ j lo hi. r.free j lo (omega (arith, r.low, hi)))))

-- a ride is one from the first step on
pub ride-found : (men : List (Option Man)) (s t : ℕ) (d : Step) → rides men s t d ≡ true → (k : ℕ) × Ride 1 men s t d k
unfolding rides is_clear rides_on
ride-found men s t d h = ride_on-found 1 men s t d h

-- a ride of some number of steps, from the first on, is a ride
pub ride-made : (men : List (Option Man)) (s t : ℕ) (d : Step) (k : ℕ) → Ride 1 men s t d k → rides men s t d ≡ true
unfolding rides is_clear rides_on
ride-made men s t d k r = ride_on-made 1 men s t d k r

-- t is k steps from s, right after the first man
pub record Hop (men : List (Option Man)) (s t : ℕ) (d : Step) (k : ℕ) : Type 0 where
  pub low : 2 ≤ k
  pub high : k < 8
  pub at : along s d k ≡ Some t
  pub hurdle : is_occupied men (along s d (k - 1)) ≡ true
  pub free : (j : ℕ) → 1 ≤ j → j < k - 1 → is_vacant_at men (along s d j) ≡ true

-- a hop takes some number of steps
pub hop-found : (men : List (Option Man)) (s t : ℕ) (d : Step) → hops men s t d ≡ true → (k : ℕ) × Hop men s t d k
unfolding hops is_clear
hop-found men s t d h =
    let w = found (λ k. is_square (along s d k) t && is_occupied men (along s d (k - 1)) && is_clear men s d (k - 2)) 2 6 h in
    (w.0, grind (arith, square_is (along s d w.0) t, and_parts, all_at (λ i. is_vacant_at men (along s d i)) 1 (w.0 - 2)))

-- a hop of some number of steps is a hop
pub hop-made : (men : List (Option Man)) (s t : ℕ) (d : Step) (k : ℕ) → Hop men s t d k → hops men s t d ≡ true
unfolding hops is_clear
hop-made men s t d k r =
    any_range_true (λ k. is_square (along s d k) t && is_occupied men (along s d (k - 1)) && is_clear men s d (k - 2)) 2 6 k r.low (omega (arith, r.high))
    (and_from _ _ (and_from _ _ (rw r.at (eq-eqb t t refl)) r.hurdle)
    (all_range_true (λ i. is_vacant_at men (along s d i)) 1 (k - 2) (λ j lo hi. r.free j lo (omega (arith, r.low, hi)))))

-- a square that a ride passes is seen from both its ends
pub from_start : (men : List (Option Man)) (s t b : ℕ) (d : Step) (k j : ℕ) → Ride 1 men s t d k → 1 ≤ j → j < k → along s d j ≡ Some b → rides men s b d ≡ true
from_start men s t b d k j r lo lt at = ride-made men s b d j (search rules)

-- from its end, in the opposite direction
pub from_end : (men : List (Option Man)) (s t b : ℕ) (d : Step) (k j : ℕ) → Ride 1 men s t d k → j < k → along s d j ≡ Some b → rides men t b (back d) ≡ true
from_end men s t b d k j r lt at = ride-made men t b (back d) (k - j) (grind (arith, mirrored))

ride_back : (men : List (Option Man)) (s t : ℕ) (d : Step) → s < 64 → rides men s t d ≡ true → rides men t s (back d) ≡ true
ride_back men s t d p h =
    let w = ride-found men s t d h in
    from_end men s t s d w.0 0 w.1 (omega (arith, w.1.low)) (stays s d p)

-- a ride is seen from both ends
pub rides-back : (men : List (Option Man)) (s t : ℕ) (d : Step) → s < 64 → t < 64 → rides men s t d ≡ rides men t s (back d)
rides-back men s t d p q = same_Bool _ _ (ride_back men s t d p) (ride_back men t s (back d) q)

-- a hop is seen from both ends
pub hops-back : (men : List (Option Man)) (s t : ℕ) (d : Step) → s < 64 → t < 64 → hops men s t d ≡ hopped_from men t s (back d)
unfolding hopped_from
hops-back men s t d p q =
    same_Bool _ _ (λ h.
    let w = hop-found men s t d h in
    and_from _ _ (ap (is_occupied men) (mirrored s t d w.0 (w.0 - 1) 1 (omega (arith, w.1.low)) w.1.at) ∙ w.1.hurdle)
    (ride_on-made 2 men t s (back d) w.0 (grind (arith, mirrored s t d w.0, stays s d p)))) (λ h.
    let w = ride_on-found 2 men t s (back d) (second_of_and (is_occupied men (along t (back d) 1)) _ h) in
    hop-made men s t d w.0 (grind (arith, mirrored t s (back d) w.0, stays t (back d) q, first_of_and)))
