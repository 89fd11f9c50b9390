-- The bitboard of a hop.
use Rattle.chess_attacks.proofs.Chess.{Bool, Direction, IsStop, List, Man, None, Option, Some, Step, along, ap, arith, bit_at-trailing_zeros, cases_eq, cases_lt, eq-eqb, false, false_from_ne_true, false≢true, first_of_and, hopped_from, hops, inl, inr, is_ahead, is_occupied, is_some, is_square, is_vacant_at, man_on, passing_order_by, place, ray, refl, rides, rides_on, rises, rules, same_Bool, second_of_and, square_word_small, squares_same, step_of, sym, trailing_zeros, true, w64, word, word_empty, word_lacks, ℕ, ◌&&◌, ◌+◌, ◌-◌, ◌<◌, ◌^◌, ◌∙◌, ◌≡◌, ◌≢◌, ◌≤◌}
use Rattle.chess_attacks.proofs.rays.Ahead.{Ordered, Passed, not_later, onward, ordered, passes}
use Rattle.chess_attacks.proofs.rays.Computed.{eighth}
use Rattle.chess_attacks.proofs.rays.Ends.{square_is, stays}
use Rattle.chess_attacks.proofs.rays.Ways.{hop-found, hop-made, ride-found, ride-made, ride_on-found, ride_on-made}
use Rattle.chess_attacks.proofs.rays.Stopping.{Steps, Stops, ahead_at, occupied_not_vacant, meets_test, marked, place_le, steps_on}

-- a line has fewer than eight steps
short : (x : Direction) (s t k : ℕ) → s < 64 → along s (step_of x) k ≡ Some t → k ≤ 8 → k < 8
short x s t k p at le = grind (arith, cases_eq k 8, eighth x s p)

-- the squares before the stop are empty
free_before : (men : List (Option Man)) (s : ℕ) (d : Step) (b j i : ℕ) → Ordered d → Stops men s d b → s < 64 → Steps s d b j → 1 ≤ i → i < j
    → is_vacant_at men (along s d i) ≡ true
free_before men s d b j i line stop p on lo lt =
    let w = passes s b d j i p (omega (arith, lt)) on.at in
    grind (arith, stop.first w.0 w.1.small, ahead_at s d w.0 i lo, line.in_order s i j w.0 b w.1.at on.at lt, w.1.at, false_from_ne_true)

-- a hop lands right after the stop
lands : (men : List (Option Man)) (s : ℕ) (x : Direction) (b t : ℕ) → Stops men s (step_of x) b → s < 64 → t < 64 → is_square (along b (step_of x) 1) t ≡ true
    → hops men s t (step_of x) ≡ true
lands men s x b t stop p q h =
    let next : along b (step_of x) 1 ≡ Some t = square_is _ t h in
    let past = (ordered x).in_order b 0 1 b t (stays b (step_of x) stop.small) next (omega arith) in
    let here = stop.here (omega (arith, past, place_le (rises (step_of x)) t q)) in
    let on = steps_on s (step_of x) b (first_of_and _ _ here) in
    let free = free_before men s (step_of x) b on.0 in
    let man = second_of_and (is_ahead s (step_of x) b) in
    hop-made men s t (step_of x) (on.0 + 1) (grind (arith, onward s b (step_of x) on.0 1 on.1.at, man, free, ordered x, short x s t (on.0 + 1)))

-- every hop lands right after the stop
landed : (men : List (Option Man)) (s : ℕ) (d : Step) (b t : ℕ) → Ordered d → Stops men s d b → s < 64 → t < 64 → hops men s t d ≡ true
    → is_square (along b d 1) t ≡ true
landed men s d b t line stop p q h =
    let w = hop-found men s t d h in
    let v = passes s t d w.0 (w.0 - 1) p (omega arith) w.1.at in
    let man : is_some (man_on men v.0) ≡ true = rw v.1.at at w.1.hurdle in
    let le = stop.first v.0 v.1.small (ahead_at s d v.0 (w.0 - 1) (omega (arith, w.1.low)) (omega (arith, w.1.high)) v.1.at) man in
    let lt = line.in_order s (w.0 - 1) w.0 v.0 t v.1.at w.1.at (omega (arith, w.1.low)) in
    let here = stop.here (omega (arith, le, lt, place_le (rises d) t q)) in
    let on = steps_on s d b (first_of_and _ _ here) in
    let full = occupied_not_vacant men (along s d on.0) b on.1.at (second_of_and (is_ahead s d b) _ here) in
    let later = not_later s on.0 (w.0 - 1) b v.0 d line on.1.at v.1.at le in
    let e : on.0 + 1 ≡ w.0 = grind (arith, cases_lt on.0 (w.0 - 1), w.1.free on.0 on.1.low, full, later, w.1.low) in
    rw (onward s b d on.0 1 on.1.at ∙ ap (along s d) e ∙ w.1.at) (eq-eqb t t refl)

-- a hop goes to the square right after the first man ahead, if there is one
pub hop_is : (men : List (Option Man)) (s : ℕ) (x : Direction) (b w : ℕ) → Stops men s (step_of x) b → s < 64
    → w ≡ word (λ t. is_square (along b (step_of x) 1) t) → w ≡ word (λ t. hops men s t (step_of x))
hop_is men s x b w stop p h = search (rules, landed, lands, ordered, same_Bool, squares_same)

-- a ride from the second square on is one from the first
from_second : (men : List (Option Man)) (t n s : ℕ) (x : Direction) → t < 64 → along t (step_of x) 1 ≡ Some n
    → rides men n s (step_of x) ≡ rides_on 2 men t s (step_of x)
from_second men t n s x p at =
    let on : (k j : ℕ) → 1 + k ≡ j → along n (step_of x) k ≡ along t (step_of x) j =
    λ k j e. onward t n (step_of x) 1 k at ∙ ap (along t (step_of x)) e in
    same_Bool _ _ (λ h.
    let w = ride-found men n s (step_of x) h in
    let there : along t (step_of x) (1 + w.0) ≡ Some s = sym (on w.0 (1 + w.0) refl) ∙ w.1.at in
    ride_on-made 2 men t s (step_of x) (1 + w.0) (record {
      low = omega (arith, w.1.low);
      high = short x t s (1 + w.0) p there (omega (arith, w.1.high));
      at = there;
      free = λ j lo hi. ap (is_vacant_at men) (sym (on (j - 1) j (omega (arith, lo)))) ∙ w.1.free (j - 1) (omega (arith, lo)) (omega (arith, hi));
    })) (λ h.
    let w = ride_on-found 2 men t s (step_of x) h in
    ride-made men n s (step_of x) (w.0 - 1) (record {
      low = omega (arith, w.1.low);
      high = omega (arith, w.1.high);
      at = on (w.0 - 1) w.0 (omega (arith, w.1.low)) ∙ w.1.at;
      free = λ j lo hi. ap (is_vacant_at men) (on j (1 + j) refl) ∙ w.1.free (1 + j) (omega (arith, lo)) (omega (arith, hi));
    }))

-- where a man stands next to t, hops over it to t come from where a ride from it gets
pub hop_back_over : (men : List (Option Man)) (t n w : ℕ) (x : Direction) → t < 64 → along t (step_of x) 1 ≡ Some n → is_some (man_on men n) ≡ true
    → w ≡ word (λ s. rides men n s (step_of x)) → w ≡ word (λ s. hopped_from men t s (step_of x))
unfolding hopped_from
hop_back_over men t n w x p at man h = search (rules, from_second)

-- where none stands next to t, no hop comes to t from that side
pub hop_back_none : (men : List (Option Man)) (t : ℕ) (d : Step) → is_occupied men (along t d 1) ≡ false → 0 ≡ word (λ s. hopped_from men t s d)
unfolding hopped_from
hop_back_none men t d h = word_empty (λ s. hopped_from men t s d) (λ s b. ap (λ o. o && rides_on 2 men t s d) h)

-- the next square, where the line has one
some_next : (s : ℕ) (d : Step) (t : ℕ) → s < 64 → is_ahead s d t ≡ true → (q : ℕ) × Passed s d 1 q
some_next s d t p h = let on = steps_on s d t h in passes s t d on.0 1 p on.1.low on.1.at

unplaced : (up : Bool) (a b : ℕ) → a < 64 → b < 64 → passing_order_by up a ≡ passing_order_by up b → a ≡ b
unplaced up a b p q h = grind arith

next_is : (s : ℕ) (x : Direction) (r b t : ℕ) → s < 64 → r ≡ ray s (step_of x) → IsStop (step_of x) r b → is_ahead s (step_of x) t ≡ true
    → Some b ≡ along s (step_of x) 1
unfolding ray
next_is s x r b t p h stop ahead =
    let w = some_next s (step_of x) t p ahead in
    let near : is_ahead s (step_of x) w.0 ≡ true = ahead_at s (step_of x) w.0 1 (omega arith) (omega arith) w.1.at in
    let le = stop.first w.0 w.1.small (marked (is_ahead s (step_of x)) r w.0 h w.1.small near) in
    let end = place_le (rises (step_of x)) w.0 w.1.small in
    let same : b ≡ w.0 = elim (cases_lt (place (step_of x) b) 63) [
      | inl lt ↦
          let on = steps_on s (step_of x) b (meets_test (is_ahead s (step_of x)) r b h stop.small (stop.here lt)) in
          grind (arith, not_later s on.0 1 b w.0 (step_of x) (ordered x) on.1.at w.1.at le, on.1.low, on.1.at, w.1.at)
      | inr ge ↦ unplaced (rises (step_of x)) b w.0 stop.small w.1.small (omega (arith, le, end, ge))
    ] in
    ap (λ (n : ℕ). Some n) same ∙ sym w.1.at

none_at : (o : Option ℕ) → ((q : ℕ) → o ≡ Some q → ⊥) → None ≡ o
none_at o h = grind arith

-- a line without squares has no next square
pub next_none : (s : ℕ) (d : Step) (r : ℕ) → s < 64 → r ≡ ray s d → r ≡ 0 → None ≡ along s d 1
unfolding ray
next_none s d r p h z = none_at (along s d 1) (λ q at.
    let w = passes s q d 1 1 p (omega arith) at in
    false≢true (sym (word_lacks (is_ahead s d) (sym h ∙ z) w.0 w.1.small) ∙ ahead_at s d w.0 1 (omega arith) (omega arith) w.1.at))

-- the next square of a line is the one that it passes first
pub next_some : (s : ℕ) (x : Direction) (r b : ℕ) → s < 64 → r ≡ ray s (step_of x) → r ≢ 0 → IsStop (step_of x) r b → Some b ≡ along s (step_of x) 1
unfolding ray
next_some s x r b p h some stop =
    let fits : r < 2 ^ 64 = rw h (square_word_small (is_ahead s (step_of x))) in
    let w = bit_at-trailing_zeros w64 r (omega arith) fits in
    next_is s x r b (trailing_zeros w64 r) p h stop (meets_test (is_ahead s (step_of x)) r (trailing_zeros w64 r) h w.0 w.1)
