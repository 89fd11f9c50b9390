-- A number minus one: its lowest 1 is cleared, the bits below are set, and the bits above stay.
use Rattle.chess_attacks.proofs.Basics.{ap, arith, bit_and, bit_at, bit_at-lt, bit_at-trailing_zeros, bit_at_and, cases_eq, cases_lt, eq-eqb, sym, suc, trailing_zeros, w64, zero, ℕ, ◌%◌, ◌-◌, ◌/◌, ◌<◌, ◌^◌, ◌∙◌, ◌≡◌}
use Rattle.std.proofs.lemmas.Nat.{and_le_r}
use Rattle.std.proofs.lemmas.Nat.Bits.{bit_at-suc, bit_at_lowest}
use Rattle.chess_attacks.specs.ties.Taking.{IsPopped}

-- the bits of n - 1, where k is n's lowest
pub record IsLessOne (n k : ℕ) : Type 0 where
  pub below : (i : ℕ) → i < k → bit_at (n - 1) i ≡ 1
  pub here : bit_at (n - 1) k ≡ 0
  pub above : (i : ℕ) → k < i → bit_at (n - 1) i ≡ bit_at n i

odd : (n i : ℕ) → n % 2 ≡ 1 → bit_at (n - 1) (suc i) ≡ bit_at n (suc i)
odd n i h = bit_at-suc (n - 1) i ∙ ap (λ m. bit_at m i) (omega (arith, h)) ∙ sym (bit_at-suc n i)

even : (n i : ℕ) → n % 2 ≡ 0 → bit_at (n - 1) (suc i) ≡ bit_at (n / 2 - 1) i
even n i h = bit_at-suc (n - 1) i ∙ ap (λ m. bit_at m i) (omega (arith, h))

odd_above : (n i : ℕ) → n % 2 ≡ 1 → 0 < i → bit_at (n - 1) i ≡ bit_at n i
odd_above n zero h lt = absurd (omega arith)
odd_above n (suc i) h lt = odd n i h

even_below : (n k i : ℕ) → n % 2 ≡ 0 → 0 < n → IsLessOne (n / 2) k → i < suc k → bit_at (n - 1) i ≡ 1
even_below n k zero h pos half lt = bit_at_lowest (n - 1) ∙ omega (arith, h)
even_below n k (suc i) h pos half lt = even n i h ∙ half.below i (omega (arith, lt))

even_above : (n k i : ℕ) → n % 2 ≡ 0 → IsLessOne (n / 2) k → suc k < i → bit_at (n - 1) i ≡ bit_at n i
even_above n k zero h half lt = absurd (omega (arith, lt))
even_above n k (suc i) h half lt = even n i h ∙ half.above i (omega (arith, lt)) ∙ sym (bit_at-suc n i)

pub less_one : (k n : ℕ) → 0 < n → bit_at n k ≡ 1 → ((i : ℕ) → i < k → bit_at n i ≡ 0) → IsLessOne n k
less_one zero n pos here first =
    let lowest : n % 2 ≡ 1 = sym (bit_at_lowest n) ∙ here in
    record { below = λ i lt. absurd (omega (arith, lt)); here = bit_at_lowest (n - 1) ∙ omega (arith, lowest); above = λ i lt. odd_above n i lowest lt }
less_one (suc k) n pos here first =
    let lowest : n % 2 ≡ 0 = sym (bit_at_lowest n) ∙ first zero (omega arith) in
    let half = less_one k (n / 2) (omega (arith, lowest)) (sym (bit_at-suc n k) ∙ here) (λ i lt. sym (bit_at-suc n i) ∙ first (suc i) (omega (arith, lt))) in
    record {
      below = λ i lt. even_below n k i lowest pos half lt;
      here = even n k lowest ∙ half.here;
      above = λ i lt. even_above n k i lowest half lt;
    }

-- the lowest bit of a word goes
pub lowest_goes : (n : ℕ) → 0 < n → n < 2 ^ 64 → IsPopped n (trailing_zeros w64 n) (bit_and n (n - 1))
lowest_goes n pos fits =
    let z = bit_at-trailing_zeros w64 n pos fits in
    let less = less_one (trailing_zeros w64 n) n pos z.1 z.2 in
    record {
      small = z.0;
      here = eq-eqb _ 1 z.1;
      first = λ t lt. grind (arith, z.2 t lt);
      gone = grind (arith, less.here, bit_at_and n (n - 1) (trailing_zeros w64 n));
      others = λ t other.
          grind (arith, cases_lt t (trailing_zeros w64 n), cases_eq t (trailing_zeros w64 n), less.above t, z.2 t, bit_at_and n (n - 1) t, bit_at-lt n t);
      fewer = omega (arith, and_le_r n (n - 1));
    }
