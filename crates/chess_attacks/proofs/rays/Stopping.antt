-- A ride: the line up to the first man on it.
use Rattle.chess_attacks.proofs.Chess.{Bool, IsStop, IsUpTo, List, Man, Option, Some, Step, along, and_from, any_range_cases, any_range_false, any_range_true, ap, arith, bit_and, bit_at, cases_lt, eq-eqb, eqb-true, false, false_from_ne_true, false≢true, first_of_and, inl, inr, is_ahead, is_some, is_square, is_vacant_at, le-leb, leb-true, man_on, not, passing_order_by, place, ray, refl, rides, rises, same_Bool, second_of_and, shared, squares_both, squares_same, sym, true, word, word_has, ℕ, ◌&&◌, ◌<◌, ◌∙◌, ◌≡◌, ◌≤◌}
use Rattle.chess_attacks.proofs.rays.Ahead.{Ordered, earlier, passes}
use Rattle.chess_attacks.proofs.rays.Ends.{square_is}
use Rattle.std.specs.Prelude.{nat_le}
use Rattle.chess_attacks.proofs.rays.Ways.{Ride, ride-found, ride-made}

-- b is the first occupied square ahead of s, or a square after which no line goes on
pub record Stops (men : List (Option Man)) (s : ℕ) (d : Step) (b : ℕ) : Type 0 where
  pub small : b < 64
  pub first : (q : ℕ) → q < 64 → is_ahead s d q ≡ true → is_some (man_on men q) ≡ true → place d b ≤ place d q
  pub here : place d b < 63 → (is_ahead s d b && is_some (man_on men b)) ≡ true

-- a square that meets the test has its bit in the word
pub marked : (test : ℕ → Bool) (w q : ℕ) → w ≡ word test → q < 64 → test q ≡ true → bit_at w q ≡ 1
marked test w q h b e = eqb-true _ _ (word_has test w q h b ∙ e)

-- a square whose bit is in the word meets the test
pub meets_test : (test : ℕ → Bool) (w q : ℕ) → w ≡ word test → q < 64 → bit_at w q ≡ 1 → test q ≡ true
meets_test test w q h b e = sym (word_has test w q h b) ∙ eq-eqb _ 1 e

-- the men ahead of s
ahead_men : (men : List (Option Man)) (s : ℕ) (d : Step) (r o : ℕ) → r ≡ ray s d → o ≡ word (λ q. is_some (man_on men q))
    → bit_and r o ≡ word (λ q. is_ahead s d q && is_some (man_on men q))
unfolding ray
ahead_men men s d r o h i = (λ j. bit_and (h j) (i j)) ∙ squares_both (is_ahead s d) (λ q. is_some (man_on men q))

-- the first man ahead in the word of men is where the line stops
pub stops : (men : List (Option Man)) (s : ℕ) (d : Step) (r o b : ℕ) → r ≡ ray s d → o ≡ word (λ q. is_some (man_on men q)) → IsStop d (bit_and r o) b
    → Stops men s d b
stops men s d r o b h i stop = grind (arith, ahead_men men s d r o h i, marked, and_from, meets_test)

-- a place on a line is at most 63
pub place_le : (up : Bool) (t : ℕ) → t < 64 → passing_order_by up t ≤ 63
place_le up t p = grind arith

-- how many steps on
pub record Steps (s : ℕ) (d : Step) (t k : ℕ) : Type 0 where
  pub low : 1 ≤ k
  pub high : k < 8
  pub at : along s d k ≡ Some t

-- a square ahead is one to seven steps on
pub steps_on : (s : ℕ) (d : Step) (t : ℕ) → is_ahead s d t ≡ true → (k : ℕ) × Steps s d t k
unfolding is_ahead
steps_on s d t h = elim (any_range_cases (λ k. is_square (along s d k) t) 1 7) [
  | inl w ↦ (w.0, record { low = w.1; high = omega (arith, w.2); at = square_is _ t w.3 })
  | inr none ↦ absurd (false≢true (sym (any_range_false (λ k. is_square (along s d k) t) 1 7 none) ∙ h))
]

-- a square that is a number of steps on is ahead
pub ahead_at : (s : ℕ) (d : Step) (t k : ℕ) → 1 ≤ k → k < 8 → along s d k ≡ Some t → is_ahead s d t ≡ true
unfolding is_ahead
ahead_at s d t k lo hi at = any_range_true (λ k. is_square (along s d k) t) 1 7 k lo (omega arith) (rw at (eq-eqb t t refl))

-- a square with a man isn't vacant
pub occupied_not_vacant : (men : List (Option Man)) (o : Option ℕ) (q : ℕ) → o ≡ Some q → is_some (man_on men q) ≡ true → is_vacant_at men o ≡ false
occupied_not_vacant men o q at man = rw at (ap not man)

-- a square after the stop isn't reached
blocked : (men : List (Option Man)) (s : ℕ) (d : Step) (b t k : ℕ) → Ordered d → Stops men s d b → t < 64 → Ride 1 men s t d k → place d b < place d t → ⊥
blocked men s d b t k line stop p ride following =
    let here = stop.here (omega (arith, following, place_le (rises d) t p)) in
    let to = steps_on s d b (first_of_and _ _ here) in
    let man = second_of_and (is_ahead s d b) _ here in
    grind (arith, to, earlier s to.0 k b t d line, ride.at, ride.free to.0, occupied_not_vacant men (along s d to.0) b, man)

-- up to the stop the line is empty
nobody : (men : List (Option Man)) (s : ℕ) (d : Step) (b t k i q : ℕ) → Ordered d → Stops men s d b → 1 ≤ i → i < k → k < 8 → along s d k ≡ Some t
    → along s d i ≡ Some q → q < 64 → place d t ≤ place d b → is_some (man_on men q) ≡ true → ⊥
nobody men s d b t k i q line stop lo lt hi at here small le man =
    omega (arith, stop.first q small (ahead_at s d q i lo (omega arith) here) man, line.in_order s i k q t here at lt, le)

-- a ride reaches the squares ahead up to the stop
ridden : (men : List (Option Man)) (s : ℕ) (d : Step) (b t : ℕ) → Ordered d → Stops men s d b → s < 64 → t < 64
    → (is_ahead s d t && nat_le (place d t) (place d b)) ≡ rides men s t d
ridden men s d b t line stop p q =
    same_Bool _ _ (λ h.
    let on = steps_on s d t (first_of_and _ _ h) in
    ride-made men s t d on.0 (record {
      low = on.1.low;
      high = on.1.high;
      at = on.1.at;
      free = λ i lo lt.
          let w = passes s t d on.0 i p (omega (arith, lt)) on.1.at in
          let le : place d t ≤ place d b = leb-true _ _ (second_of_and (is_ahead s d t) _ h) in
          grind (arith, nobody men s d b t on.0 i w.0 line stop lo lt on.1.high on.1.at w.1.at w.1.small le, false_from_ne_true);
    })) (λ h.
    let w = ride-found men s t d h in
    let ahead = ahead_at s d t w.0 w.1.low w.1.high w.1.at in
    and_from _ _ ahead (grind (arith, cases_lt (place d b) (place d t), le-leb, blocked men s d b t w.0 line stop q w.1)))

-- a ride reaches the squares ahead up to the first man
pub ride_is : (men : List (Option Man)) (s : ℕ) (d : Step) (r o n : ℕ) → Ordered d → s < 64 → r ≡ ray s d → o ≡ word (λ q. is_some (man_on men q))
    → IsUpTo d (bit_and r o) n → bit_and r n ≡ word (λ t. rides men s t d)
unfolding ray
ride_is men s d r o n line p h held first =
    shared _ _ _ _ h first.squares ∙ squares_same _ _ (λ t q. ridden men s d _ t line (stops men s d r o _ h held first.stop) p q)
