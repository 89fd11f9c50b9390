-- Squares of bitboards that are joined, shared or taken away.
use Rattle.chess_attacks.proofs.Basics.{and_le_l, arith, cases_Bool, cases_lt, inl, inr, one_shl, bit_and, bit_at, bit_at-lt, bit_at-zero, bit_not, eq-eqb, eqb-true, false, false≢true, ap, sym, true, w64, ℕ, ◌%◌, ◌*◌, ◌<◌, ◌==◌, ◌^◌, ◌∙◌, ◌≡◌, ◌≢◌}
use Rattle.std.proofs.lemmas.Nat.Bits.{bit_at-pow_other, bit_at-pow_same, bit_at_and, bit_at_not}

-- a square of both words
pub on_both : (a b t : ℕ) → (bit_at a t == 1) ≡ true → (bit_at b t == 1) ≡ true → (bit_at (bit_and a b) t == 1) ≡ true
on_both a b t on too = grind (arith, eqb-true, bit_at_and, eq-eqb)

-- a square of the first of two words, and not of the second
pub denied_on : (a b i : ℕ) → b < 2 ^ 64 → i < 64 → (bit_at a i == 1) ≡ true → (bit_at b i == 1) ≡ false → (bit_at (bit_and a (bit_not w64 b)) i == 1) ≡ true
denied_on a b i fits small on off = on_both a (bit_not w64 b) i on (grind (arith, bit_at_not w64 b i fits small, bit_at-lt b i, eq-eqb, false≢true))

-- a word with a square isn't empty
pub some_on : (w t : ℕ) → (bit_at w t == 1) ≡ true → (w == 0) ≡ false
some_on w t on = grind (arith, bit_at-zero t)

-- a square of both words is one of the first
pub on_first : (a b t : ℕ) → (bit_at (bit_and a b) t == 1) ≡ true → (bit_at a t == 1) ≡ true
on_first a b t on = grind (arith, eqb-true, bit_at_and, bit_at-lt a t, bit_at-lt b t, eq-eqb)

-- and one of the second
pub on_second : (a b t : ℕ) → (bit_at (bit_and a b) t == 1) ≡ true → (bit_at b t == 1) ≡ true
on_second a b t on = grind (arith, eqb-true, bit_at_and, bit_at-lt a t, bit_at-lt b t, eq-eqb)

-- a square that is taken away is gone
pub cleared : (a s i : ℕ) → i ≡ s → s < 64 → (bit_at (bit_and a (bit_not w64 (1 * 2 ^ i % 2 ^ 64))) s == 1) ≡ false
cleared a s i same small = elim (cases_Bool (bit_at (bit_and a (bit_not w64 (1 * 2 ^ i % 2 ^ 64))) s == 1)) [
  | inr off ↦ off
  | inl on ↦ absurd (false≢true (sym (grind (arith, same, one_shl s 64 small, bit_at-pow_same s, bit_at_not w64 (1 * 2 ^ s % 2 ^ 64) s (omega arith) small))
      ∙ on_second a (bit_not w64 (1 * 2 ^ i % 2 ^ 64)) s on))
]

-- all squares but one
pub off_one : (s i k : ℕ) → i ≡ k → s < 64 → k < 64 → s ≢ k → (bit_at (bit_not w64 (1 * 2 ^ i % 2 ^ 64)) s == 1) ≡ true
off_one s i k same small low off =
    grind (arith, same, one_shl k 64 low, bit_at-pow_other k s, bit_at_not w64 (1 * 2 ^ k % 2 ^ 64) s (omega arith) small, eq-eqb)

-- fewer squares make a smaller number
pub fewer : (a b t : ℕ) → (bit_at a t == 1) ≡ true → (bit_at (bit_and a b) t == 1) ≡ false → bit_and a b < a
fewer a b t on off = elim (cases_lt (bit_and a b) a) [
  | inl less ↦ less
  | inr more ↦ absurd (false≢true (sym off ∙ ap (λ w. bit_at w t == 1) (omega (arith, more, and_le_l a b)) ∙ on))
]
