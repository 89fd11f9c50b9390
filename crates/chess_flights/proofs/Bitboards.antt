-- Lemmas on the squares of bitboards.
use Rattle.chess_flights.proofs.Chess.{Colour, Kind, Man, Some, arith, bit_and, bit_at, bit_at-lt, bit_at_and, bit_at_not, bit_not, eq-eqb, eqb-true, false, false_by, false≢true, man_on, off_zero, rules, same_colour-true, same_kind-true, squares_of, sym, true, w64, word_has, ℕ, ◌<◌, ◌==◌, ◌^◌, ◌∙◌, ◌≡◌, IsNear, ap}
use Rattle.chess_attacks.specs.ties.Lines.{AreReached}

-- a square in the bitboard of a kind holds a man of the kind
pub man_of_word : (men : _) (c : Colour) (k : Kind) (w s : ℕ) → w ≡ squares_of men c k → s < 64 → (bit_at w s == 1) ≡ true
    → man_on men s ≡ Some (record { colour = c; kind = k })
unfolding squares_of
man_of_word men c k w s h small on = search (rules, same_colour-true, same_kind-true, word_has)

-- a square of the first of two words, and not of the second
pub off_denied : (a b i : ℕ) → b < 2 ^ 64 → i < 64 → (bit_at (bit_and a (bit_not w64 b)) i == 1) ≡ true → (bit_at b i == 1) ≡ false
off_denied a b i fits small on = grind (arith, false_by, eqb-true _ _ on, eqb-true, bit_at_not w64 b i fits small, bit_at_and a (bit_not w64 b) i)

-- a square that isn't one of the others is one of the word
pub on_denied : (w i : ℕ) → w < 2 ^ 64 → i < 64 → (bit_at (bit_not w64 w) i == 1) ≡ false → (bit_at w i == 1) ≡ true
on_denied w i fits small off = grind (arith, bit_at_not w64 w i fits small, bit_at-lt w i, eq-eqb)

-- a square of both words
pub on_both : (a b t : ℕ) → (bit_at a t == 1) ≡ true → (bit_at b t == 1) ≡ true → (bit_at (bit_and a b) t == 1) ≡ true
on_both a b t on too = grind (arith, eqb-true, bit_at_and, eq-eqb)

-- no square is one of none
pub none_at : (w s : ℕ) → w ≡ 0 → (bit_at w s == 1) ≡ true → ⊥
none_at w s empty on = false≢true (sym (off_zero s) ∙ ap (λ (n : ℕ). bit_at n s == 1) (sym empty) ∙ on)

-- a word that a test finds empty has no square
pub none_on : (w s : ℕ) → (w == 0) ≡ true → (bit_at w s == 1) ≡ true → ⊥
none_on w s empty on = none_at w s (eqb-true w 0 empty) on

-- a square that isn't one of a word
pub bit_denied : (b i : ℕ) → b < 2 ^ 64 → i < 64 → (bit_at b i == 1) ≡ false → (bit_at (bit_not w64 b) i == 1) ≡ true
bit_denied b i fits small off = grind (arith, bit_at_not w64 b i fits small, bit_at-lt b i, eq-eqb, false≢true)

-- for a square of the first of two words alone
pub denied_on : (a b i : ℕ) → b < 2 ^ 64 → i < 64 → (bit_at a i == 1) ≡ true → (bit_at b i == 1) ≡ false → (bit_at (bit_and a (bit_not w64 b)) i == 1) ≡ true
denied_on a b i fits small on off = on_both a (bit_not w64 b) i on (bit_denied b i fits small off)

-- a man that doesn't reach the region on the empty board
pub not_near : (x : Man) (s o region : ℕ) → AreReached x s o → bit_and o region ≡ 0 → IsNear x s region → ⊥
not_near x s o region reached none near =
    none_at (bit_and o region) near.square none (on_both o region near.square (reached.inside near.men near.square near.small near.reaches) near.on)
