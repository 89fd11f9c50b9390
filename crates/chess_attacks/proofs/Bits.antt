-- Bitboards: the first square from a number on, a single square, bitboards that aren't empty, and unions of
-- lines.
use Rattle.chess_attacks.proofs.Basics.{Bool, List, None, Some, [], ap, arith, bit_and, bit_at, bit_at-lt, bit_at-pow_other, bit_at-pow_same, bit_at-trailing_zeros, bit_at-zero, bit_at_and, bit_at_mask_below, bit_at_mask_inside, bit_at_or, bit_not, bit_or, cases_eq, cases_lt, eq-eqb, eqb-true, false, false_from_ne_true, find, list_any, list_any-append, nat_le, not, one_shl, ones_shl, range_with_len, refl, rules, sym, trailing_zeros, true, true_from_ne_false, w64, ℕ, ◌%◌, ◌*◌, ◌++◌, ◌-◌, ◌<◌, ◌==◌, ◌^◌, ◌&&◌, ◌||◌, ◌∙◌, ◌∷◌, ◌≡◌, ◌≤◌}
use Rattle.chess_core.proofs.Ranges.{find_range_none, find_range_some}
use Rattle.chess_core.proofs.Words.{square_bit, square_word, squares_both, squares_either, squares_none, squares_not, squares_same, squares_some}
use Rattle.chess_core.specs.Squares.{is_square, some_square}
use Rattle.chess_core.specs.Steps.{Step}
use Rattle.chess_core.specs.ties.Words.{bit_of, word}
use Rattle.chess_attacks.proofs.Tests.{differs}

-- the bits of a word from a place on
abbrev pub from_on : ℕ → ℕ → ℕ
from_on word from = bit_and word ((2 ^ 64 - 1) * 2 ^ from % 2 ^ 64)

bit_from_on : (word from i : ℕ) → from ≤ i → i < 64 → bit_at (from_on word from) i ≡ bit_at word i
bit_from_on word from i lo hi =
    grind (arith, ones_shl 64 from (omega arith), bit_at_and word (2 ^ 64 - 2 ^ from) i, bit_at_mask_inside from 64 i lo hi, bit_at-lt word i)

bit_below : (word from i : ℕ) → from ≤ 64 → i < from → bit_at (from_on word from) i ≡ 0
bit_below word from i le lt = grind (arith, ones_shl 64 from le, bit_at_and word (2 ^ 64 - 2 ^ from) i, bit_at_mask_below from 64 i lt)

not_set : (n : ℕ) → n ≡ 0 → (n == 1) ≡ false
not_set n h = rw h refl

-- where no bit is left from the place on, none is found
pub next_none : (word from : ℕ) → from < 64 → from_on word from ≡ 0 → find (λ s. bit_at word s == 1) (range_with_len from (64 - from)) ≡ None
next_none word from p h =
    find_range_none (λ s. bit_at word s == 1) from (64 - from) (λ k lo hi. grind (arith, bit_from_on word from k lo, bit_at-zero k, not_set))

-- the lowest bit from the place on isn't below the place
pub next_low : (word from : ℕ) → from < 64 → 0 < from_on word from → from_on word from < 2 ^ 64 → from ≤ trailing_zeros w64 (from_on word from)
next_low word from p pos fits = grind (arith, bit_at-trailing_zeros w64 (from_on word from) pos fits, cases_lt, bit_below)

-- the lowest bit from the place on is the square that the search finds
pub next_some : (word from : ℕ) → from < 64 → 0 < from_on word from → from_on word from < 2 ^ 64
    → find (λ s. bit_at word s == 1) (range_with_len from (64 - from)) ≡ Some (trailing_zeros w64 (from_on word from))
next_some word from p pos fits =
    let w = bit_at-trailing_zeros w64 (from_on word from) pos fits in
    let lo = next_low word from p pos fits in
    find_range_some (λ s. bit_at word s == 1) from (64 - from) _ lo (omega (arith, w.0)) (grind (arith, bit_from_on word from, w, lo))
    (λ j a b. grind (arith, w.2 j b, bit_from_on word from j a, w.0))

-- the squares from a place on
pub kept_from : (word from t : ℕ) → from < 64 → t < 64 → (bit_at (from_on word from) t == 1) ≡ (nat_le from t && bit_at word t == 1)
kept_from word from t p q = grind (arith, cases_lt t from, bit_from_on word from t, bit_below word from t)

-- no square lies after the last one
pub none_from : (word from t : ℕ) → 64 ≤ from → t < 64 → (bit_at 0 t == 1) ≡ (nat_le from t && bit_at word t == 1)
none_from word from t p q = grind (arith, bit_at-zero t)

is_bit : (b : Bool) → (bit_of b == 1) ≡ b
is_bit b = grind arith

-- a word isn't 0 exactly if some square meets the test
pub not_zero : (test : ℕ → Bool) → not (word test == 0) ≡ some_square test
not_zero test = search (rules, squares_none, squares_some)

-- a word of no squares
pub word_empty : (test : ℕ → Bool) → ((s : ℕ) → s < 64 → test s ≡ false) → 0 ≡ word test
word_empty test h = square_word test 0 (omega arith) (λ s b. bit_at-zero s ∙ sym (ap bit_of (h s b)))

-- a word of one
pub word_only : (s : ℕ) → s < 64 → 1 * 2 ^ s % 2 ^ 64 ≡ word (λ t. is_square (Some s) t)
word_only s p =
    square_word (λ t. is_square (Some s) t) _ (omega arith)
    (λ t b. grind (arith, one_shl s 64 p, cases_eq t s, bit_at-pow_same s, bit_at-pow_other s t, differs s t))

-- a bit of a word says whether the square meets the test
pub word_has : (test : ℕ → Bool) (w s : ℕ) → w ≡ word test → s < 64 → (bit_at w s == 1) ≡ test s
word_has test w s h b = ap (λ n. bit_at n s == 1) h ∙ ap (λ n. n == 1) (square_bit test s b) ∙ is_bit (test s)

-- a word that is 0 has no square
pub word_lacks : (test : ℕ → Bool) → word test ≡ 0 → (s : ℕ) → s < 64 → test s ≡ false
word_lacks test h s b = sym (word_has test (word test) s refl b) ∙ word_has (λ s. false) (word test) s (h ∙ word_empty (λ s. false) (λ s b. refl)) b

-- all squares
pub every_square : (test : ℕ → Bool) → ((s : ℕ) → s < 64 → test s ≡ true) → bit_not w64 0 ≡ word test
every_square test h = ap (bit_not w64) (word_empty (λ s. false) (λ s b. refl)) ∙ squares_not (λ s. false) ∙ squares_same (λ s. true) test (λ s b. sym (h s b))

-- a square off both words is off each
pub off_left : (a b i : ℕ) → (bit_at (bit_or a b) i == 1) ≡ false → (bit_at a i == 1) ≡ false
off_left a b i h = search (rules, bit_at-lt, bit_at_or, eq-eqb, eqb-true, false_from_ne_true)

-- a square off both words is off the second
pub off_right : (a b i : ℕ) → (bit_at (bit_or a b) i == 1) ≡ false → (bit_at b i == 1) ≡ false
off_right a b i h = search (rules, bit_at-lt, bit_at_or, eq-eqb, eqb-true, false_from_ne_true)

-- a square of either word is one of both together
pub on_left : (a b i : ℕ) → (bit_at a i == 1) ≡ true → (bit_at (bit_or a b) i == 1) ≡ true
on_left a b i h = true_from_ne_false _ (λ e. let off = off_left a b i e in cc)

-- a square of the second word is one of both together
pub on_right : (a b i : ℕ) → (bit_at b i == 1) ≡ true → (bit_at (bit_or a b) i == 1) ≡ true
on_right a b i h = true_from_ne_false _ (λ e. let off = off_right a b i e in cc)

-- the squares of either word, where each word has those that meet a test
pub joined : (p q : ℕ → Bool) (k l : ℕ) → k ≡ word p → l ≡ word q → bit_or k l ≡ word (λ s. p s || q s)
joined p q k l h i = (λ j. bit_or (h j) (i j)) ∙ squares_either p q

-- the intersection of two bitboards holds the squares of both tests
pub shared : (p q : ℕ → Bool) (k l : ℕ) → k ≡ word p → l ≡ word q → bit_and k l ≡ word (λ s. p s && q s)
shared p q k l h i = (λ j. bit_and (h j) (i j)) ∙ squares_both p q

one_by_one : (a b c d : Bool) → (((a || b) || c) || d) ≡ (a || (b || (c || (d || false))))
one_by_one a b c d = grind arith

-- the words of four steps joined are the word of the four
pub four : (p : ℕ → Step → Bool) (a b c d : Step) (k l m n : ℕ) → k ≡ word (λ t. p t a) → l ≡ word (λ t. p t b) → m ≡ word (λ t. p t c) → n ≡ word (λ t. p t d)
    → bit_or (bit_or (bit_or k l) m) n ≡ word (λ t. list_any (p t) (a ∷ b ∷ c ∷ d ∷ []))
four p a b c d k l m n x y z w = joined _ _ _ _ (joined _ _ _ _ (joined _ _ _ _ x y) z) w ∙ squares_same _ _ (λ t _. one_by_one (p t a) (p t b) (p t c) (p t d))

-- the words of two lists of steps joined are the word of both lists
pub both_lists : (p : ℕ → Step → Bool) (xs ys : List Step) (k l : ℕ) → k ≡ word (λ t. list_any (p t) xs) → l ≡ word (λ t. list_any (p t) ys)
    → bit_or k l ≡ word (λ t. list_any (p t) (xs ++ ys))
both_lists p xs ys k l x y = joined _ _ _ _ x y ∙ squares_same _ _ (λ t less. sym (list_any-append (p t) xs ys))

-- the word 0 has no square
pub off_zero : (i : ℕ) → (bit_at 0 i == 1) ≡ false
off_zero i = rw (bit_at-zero i) refl
