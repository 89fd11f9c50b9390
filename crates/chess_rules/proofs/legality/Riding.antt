-- Bitboards of the squares that block lines.
use Rattle.std.proofs.lemmas.Nat.Bits.{same_from_bits}
use Rattle.std.specs.Int.Bits.{or_zero_r}
use Rattle.chess_attacks.proofs.HoldTaken.{none_meets, some_taken_or_left}
use Rattle.chess_attacks.specs.ties.Taking.{IsPopped}
use Rattle.chess_rules.proofs.Chess.{AreRides, Bool, Colour, Kind, List, Man, Option, Queen, Step, ap, arith, bit_and, bit_at, bit_at-zero, bit_at_or, bit_or, is_rider_beyond, is_line_rider, is_met, is_on_some, is_blocking, list_any, rides, rules, shared, some_square, some_square_false, squares_both, squares_either, squares_of, squares_same, sym, word, word_empty, word_has, ℕ, ◌&&◌, ◌==◌, ◌∙◌, ◌≡◌}
use Rattle.chess_attacks.proofs.attacks.Attacking.{met, met_none, some_square_same}

-- the squares to which one of the riders on a word's squares gets
abbrev pub ridden_by : List (Option Man) → List Step → ℕ → ℕ → Bool
ridden_by men ds w s = some_square (λ q. bit_at w q == 1 && list_any (rides men q s) ds)

regrouped : (a b c : ℕ) → bit_or (bit_or a b) c ≡ bit_or a (bit_or b c)
regrouped a b c =
    same_from_bits _ _ (λ i. omega (arith, bit_at_or (bit_or a b) c i, bit_at_or a b i, bit_at_or a (bit_or b c) i, bit_at_or b c i))

-- the squares that one rider reaches and those that the others reach are all that are reached
pub ridden_more : (men : List (Option Man)) (ds : List Step) (rest k left r v w : ℕ) → IsPopped rest k left → v ≡ word (λ s. list_any (rides men k s) ds)
    → bit_or r (word (ridden_by men ds rest)) ≡ w → bit_or (bit_or r v) (word (ridden_by men ds left)) ≡ w
ridden_more men ds rest k left r v w taken h before =
    regrouped r v _ ∙ ap (bit_or r) ((λ j. bit_or (h j) (word (ridden_by men ds left))) ∙ squares_either _ (ridden_by men ds left)
    ∙ squares_same _ _ (λ s small. sym (some_taken_or_left rest k left (λ q. list_any (rides men q s) ds) taken))) ∙ before

-- where no rider is left, none gets anywhere
pub ridden_all : (men : List (Option Man)) (ds : List Step) (rest r w : ℕ) → rest ≡ 0 → bit_or r (word (ridden_by men ds rest)) ≡ w → r ≡ w
ridden_all men ds rest r w none h =
    let empty = word_empty (ridden_by men ds rest) (λ s small. none_meets rest (λ q. list_any (rides men q s) ds) none) in
    sym (or_zero_r r) ∙ ap (bit_or r) empty ∙ h

-- the rooks or bishops and the queens on the lines from a square
pub riders_are : (men : List (Option Man)) (e : Colour) (j : Kind) (ds : List Step) (k r l : ℕ) → r ≡ bit_or (squares_of men e j) (squares_of men e Queen)
    → l ≡ word (is_on_some ds k) → bit_and r l ≡ word (is_line_rider men e j ds k)
unfolding squares_of
riders_are men e j ds k r l h g = shared _ _ _ _ (h ∙ squares_either _ _) g

-- without riders on the lines no square blocks one
pub none_shut : (men : List (Option Man)) (e : Colour) (j : Kind) (ds : List Step) (k w : ℕ) → w ≡ word (is_line_rider men e j ds k) → w ≡ 0
    → 0 ≡ word (is_blocking men e j ds k)
unfolding is_blocking is_rider_beyond
none_shut men e j ds k w h zero =
    let nobody = λ (s : ℕ). some_square_false (is_rider_beyond men e j ds k s) 64 in
    word_empty (is_blocking men e j ds k) (λ s small. grind (arith, nobody s, word_has (is_line_rider men e j ds k) w, bit_at-zero))

-- where one stands, the squares to which a rider gets from the square are known
ridden_from : (men : List (Option Man)) (e : Colour) (j : Kind) (ds : List Step) (k w n : ℕ) → w ≡ word (is_line_rider men e j ds k) → (w ≡ 0 → ⊥)
    → AreRides men e j ds k n → n ≡ word (λ t. list_any (rides men k t) ds)
ridden_from men e j ds k w n h some i = grind arith

-- a square blocks a line to the king exactly if both the king's square and a rider see it
pub shut_are : (men : List (Option Man)) (e : Colour) (j : Kind) (ds : List Step) (k w n r : ℕ) → w ≡ word (is_line_rider men e j ds k) → (w ≡ 0 → ⊥)
    → AreRides men e j ds k n → r ≡ word (λ s. some_square (λ q. bit_at w q == 1 && list_any (rides men q s) ds))
    → bit_and n r ≡ word (is_blocking men e j ds k)
unfolding is_blocking is_rider_beyond
shut_are men e j ds k w n r h some i g =
    (λ y. bit_and (ridden_from men e j ds k w n h some i y) (g y)) ∙ squares_both _ _
    ∙ squares_same _ (is_blocking men e j ds k) (λ s small. grind (arith, some_square_same, word_has (is_line_rider men e j ds k) w))

-- the riders on the squares to which a rider gets are those that are met there
pub met_by_rides : (men : List (Option Man)) (e : Colour) (j : Kind) (ds : List Step) (k m w : ℕ) → m ≡ bit_or (squares_of men e j) (squares_of men e Queen)
    → AreRides men e j ds k w → bit_and m w ≡ word (is_met men e j ds k)
met_by_rides men e j ds k m w h i = search (rules, met, met_none, riders_are, h, i)
