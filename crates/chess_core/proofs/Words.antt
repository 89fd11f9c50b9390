-- Laws of bitboards: their bits, one bit set or cleared, and unions.
use Rattle.chess_core.proofs.Basics.{Bool, List, [], and_le_l, ap, arith, bit_and, bit_at, bit_at-pow_other, bit_at-pow_same, bit_at-suc, bit_at-trailing_zeros, bit_at-zero, bit_at_and, bit_at_clear_other, bit_at_clear_same, bit_at_lowest, bit_at_not, bit_at_or, bit_at_set_other, bit_at_set_same, bit_not, bit_of, bit_or, cases_eq, eq-eqb, eqb, false, get_or, get_or-set_other, get_or-set_same, inl, inr, length, length-set, max, min, ne_eqb, not, one_shl, or_lt, refl, rules, same_from_bits_below, set, some_square, squares, subst, suc, sym, trailing_zeros, true, w64, word, word_of, zero, ℕ, ◌%◌, ◌&&◌, ◌*◌, ◌+◌, ◌-◌, ◌<◌, ◌^◌, ◌||◌, ◌∙◌, ◌∷◌, ◌≡◌}
use Rattle.std.proofs.lemmas.List.FromFn.{get_or-range_with_len}
use Rattle.chess_core.proofs.Ranges.{some_square_true, some_square_false}

-- the word of a list has no more bits than the list has members
word_small : {X : Type 0} (test : X → Bool) (xs : List X) → word_of test xs < 2 ^ length xs
unfolding word_of
word_small test [] = omega arith
word_small test (x ∷ xs) = grind (arith, word_small test xs)

-- bit i of a word
word_bit : {X : Type 0} (test : X → Bool) (xs : List X) (d : X) (i : ℕ) → i < length xs → bit_at (word_of test xs) i ≡ bit_of (test (get_or xs i d))
unfolding word_of
word_bit test [] d i h = absurd (omega arith)
word_bit test (x ∷ xs) d zero h = grind (arith, bit_at_lowest)
word_bit test (x ∷ xs) d (suc i) h = grind (arith, bit_at-suc, word_bit test xs d i (omega arith))

-- a number of 64 bits with these bits is the word
word_from_bits : {X : Type 0} (test : X → Bool) (xs : List X) (d : X) (n : ℕ) → length xs ≡ 64 → n < 2 ^ 64
    → ((i : ℕ) → i < 64 → bit_at n i ≡ bit_of (test (get_or xs i d))) → n ≡ word_of test xs
word_from_bits test xs d n l b h =
    let w : word_of test xs < 2 ^ 64 = subst (λ k. word_of test xs < 2 ^ k) l (word_small test xs) in
    same_from_bits_below 64 n (word_of test xs) b w (λ i p. h i p ∙ sym (word_bit test xs d i (omega arith)))

-- a member is put in that meets the test
pub word_with : {X : Type 0} (test : X → Bool) (xs : List X) (s : ℕ) (y : X) → length xs ≡ 64 → s < 64 → test y ≡ true
    → bit_or (word_of test xs) (1 * 2 ^ s % 2 ^ 64) ≡ word_of test (set xs s y)
word_with test xs s y l p h =
    let w : word_of test xs < 2 ^ 64 = subst (λ k. word_of test xs < 2 ^ k) l (word_small test xs) in
    word_from_bits test (set xs s y) y _ (length-set xs s y ∙ l) (or_lt 64 _ _ w (omega arith)) (λ i q. elim (cases_eq i s) [
      | inl e ↦ rw e (bit_at_set_same w64 (word_of test xs) s p ∙ sym (ap (λ x. bit_of (test x)) (get_or-set_same xs s y y (omega arith)) ∙ ap bit_of h))
      | inr ne ↦ grind (arith, bit_at_set_other w64 (word_of test xs) s p i ne, word_bit test xs y i (omega arith), get_or-set_other xs s i y y ne)
    ])

-- a member is put in that does not
pub word_without : {X : Type 0} (test : X → Bool) (xs : List X) (s : ℕ) (y : X) → length xs ≡ 64 → s < 64 → test y ≡ false
    → bit_and (word_of test xs) (bit_not w64 (1 * 2 ^ s % 2 ^ 64)) ≡ word_of test (set xs s y)
word_without test xs s y l p h =
    let w : word_of test xs < 2 ^ 64 = subst (λ k. word_of test xs < 2 ^ k) l (word_small test xs) in
    word_from_bits test (set xs s y) y _ (length-set xs s y ∙ l) (omega (arith, and_le_l (word_of test xs) (bit_not w64 (1 * 2 ^ s % 2 ^ 64))))
    (λ i q. elim (cases_eq i s) [
      | inl e ↦ rw e (bit_at_clear_same w64 (word_of test xs) s p ∙ sym (ap (λ x. bit_of (test x)) (get_or-set_same xs s y y (omega arith)) ∙ ap bit_of h))
      | inr ne ↦ grind (arith, bit_at_clear_other w64 (word_of test xs) s p i q ne, word_bit test xs y i (omega arith), get_or-set_other xs s i y y ne)
    ])

-- a list stays the same to a test if one element is replaced by another with the same result
pub word_same : {X : Type 0} (test : X → Bool) (xs : List X) (s : ℕ) (y d : X) → test (get_or xs s d) ≡ test y → word_of test (set xs s y) ≡ word_of test xs
unfolding word_of
word_same test [] s y d h = refl
word_same test (x ∷ xs) zero y d h = ap (λ b. bit_of b + 2 * word_of test xs) (sym h)
word_same test (x ∷ xs) (suc s) y d h = ap (λ n. bit_of (test x) + 2 * n) (word_same test xs s y d h)

both : (a b : Bool) → min (bit_of a) (bit_of b) ≡ bit_of (a && b)
both a b = grind arith

-- what meets both tests
pub word_both : {X : Type 0} (p q r : X → Bool) (xs : List X) (d : X) → length xs ≡ 64 → ((x : X) → (p x && q x) ≡ r x)
    → bit_and (word_of p xs) (word_of q xs) ≡ word_of r xs
word_both p q r xs d l h =
    let w : word_of p xs < 2 ^ 64 = subst (λ k. word_of p xs < 2 ^ k) l (word_small p xs) in
    word_from_bits r xs d _ l (omega (arith, and_le_l (word_of p xs) (word_of q xs))) (grind (arith, bit_at_and, word_bit, both))

-- the square with a number stands at its place in the list
squares_at : (i : ℕ) → i < 64 → get_or squares i 0 ≡ i
unfolding squares
squares_at i p = get_or-range_with_len 0 64 i 0 p ∙ omega arith

-- a word over the men on the squares, by the numbers of the squares
pub word_on : {X : Type 0} (test : X → Bool) (xs : List X) (d : X) → length xs ≡ 64 → word_of test xs ≡ word (λ s. test (get_or xs s d))
unfolding word squares
word_on test xs d l = word_from_bits (λ s. test (get_or xs s d)) squares 0 (word_of test xs) refl (subst (λ k. word_of test xs < 2 ^ k) l (word_small test xs))
    (λ i p. word_bit test xs d i (omega arith) ∙ ap (λ n. bit_of (test (get_or xs n d))) (sym (squares_at i p)))

-- bit s of a bitboard
pub square_bit : (test : ℕ → Bool) (s : ℕ) → s < 64 → bit_at (word test) s ≡ bit_of (test s)
unfolding word squares
square_bit test s p = word_bit test squares 0 s p ∙ ap (λ n. bit_of (test n)) (squares_at s p)

-- a bitboard fits into 64 bits
pub square_word_small : (test : ℕ → Bool) → word test < 2 ^ 64
unfolding word squares
square_word_small test = word_small test squares

-- a number of 64 bits with these bits is the bitboard
pub square_word : (test : ℕ → Bool) (n : ℕ) → n < 2 ^ 64 → ((s : ℕ) → s < 64 → bit_at n s ≡ bit_of (test s)) → n ≡ word test
unfolding word squares
square_word test n fits h = word_from_bits test squares 0 n refl fits (λ s p. h s p ∙ ap (λ m. bit_of (test m)) (sym (squares_at s p)))

-- the word of one square
pub square_alone : (s : ℕ) → s < 64 → 1 * 2 ^ s % 2 ^ 64 ≡ word (λ t. eqb s t)
square_alone s p = square_word (λ t. eqb s t) _ (omega arith)
    (grind (arith, cases_eq, eq-eqb s s refl, one_shl s 64 p, bit_at-pow_same s, ne_eqb, bit_at-pow_other))

either : (a b : Bool) → max (bit_of a) (bit_of b) ≡ bit_of (a || b)
either a b = grind arith

-- the squares that meet one test or the other
pub squares_either : (p q : ℕ → Bool) → bit_or (word p) (word q) ≡ word (λ s. p s || q s)
squares_either p q = search (rules, square_word, or_lt, square_word_small, bit_at_or, square_bit, either)

-- the squares that meet both tests
pub squares_both : (p q : ℕ → Bool) → bit_and (word p) (word q) ≡ word (λ s. p s && q s)
squares_both p q = search (rules, square_word, and_le_l, square_word_small, bit_at_and, square_bit, both)

-- a bit 0 means that the test fails
pub bit_false : (b : Bool) → bit_of b ≡ 0 → b ≡ false
bit_false b h = grind arith

-- a word is 0 where no square meets the test
pub squares_none : (test : ℕ → Bool) → word test ≡ 0 → some_square test ≡ false
squares_none test h =
    some_square_false test 64 (omega arith) (record { fails = λ s p. bit_false (test s) (sym (square_bit test s p) ∙ ap (λ n. bit_at n s) h ∙ bit_at-zero s) })

-- a bit 1 means that the square meets the test
pub bit_true : (b : Bool) → bit_of b ≡ 1 → b ≡ true
bit_true b h = grind arith

-- a word above 0 has a square that meets the test
pub squares_some : (test : ℕ → Bool) → 0 < word test → some_square test ≡ true
squares_some test h =
    let w = bit_at-trailing_zeros w64 (word test) h (square_word_small test) in
    some_square_true test (trailing_zeros w64 (word test)) w.0 (bit_true _ (sym (square_bit test (trailing_zeros w64 (word test)) w.0) ∙ w.1))

-- some square meets the test exactly if the bitboard isn't 0
pub some_square_known : (test : ℕ → Bool) (n : ℕ) → n ≡ word test → not (eqb n 0) ≡ some_square test
some_square_known test n h = grind (arith, cases_eq, squares_none, ne_eqb, squares_some)

negated : (b : Bool) → 1 - bit_of b ≡ bit_of (not b)
negated b = grind arith

-- the squares that don't meet the test
pub squares_not : (p : ℕ → Bool) → bit_not w64 (word p) ≡ word (λ s. not (p s))
squares_not p = square_word (λ s. not (p s)) _ (omega (arith, square_word_small p))
    (λ s b. bit_at_not w64 (word p) s (square_word_small p) b ∙ ap (λ n. 1 - n) (square_bit p s b) ∙ negated (p s))

-- tests that agree on the board's squares have the same word
pub squares_same : (p q : ℕ → Bool) → ((s : ℕ) → s < 64 → p s ≡ q s) → word p ≡ word q
squares_same p q h = square_word q (word p) (square_word_small p) (λ s b. square_bit p s b ∙ ap bit_of (h s b))
