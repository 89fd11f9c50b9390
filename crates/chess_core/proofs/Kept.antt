-- The bitboards kept with the men agree with them.
use Rattle.chess_core.proofs.Basics.{arith, Colour, Agrees, Kind, List, Man, None, Option, Some, bit_and, bit_not, bit_or, colour_number, eqb-true, get_or, is_kind, is_man, is_of_colour, kind_number, kind_bitboards, length, man_on, rules, same_colour, same_kind, set, side_bitboards, true, w64, word_of, ℕ, ◌%◌, ◌*◌, ◌<◌, ◌^◌, ◌≡◌}
use Rattle.chess_core.proofs.Words.{word_with, word_without, word_same, word_both}

-- ---- lists by kind and by colour

-- kinds that the test calls the same are the same
pub same_kind-true : (a b : Kind) → same_kind a b ≡ true → a ≡ b
same_kind-true a b h = grind (arith, eqb-true)

-- each colour is the same as itself
pub same_colour-refl : (a : Colour) → same_colour a a ≡ true
same_colour-refl a = search rules

-- ---- a man is put on an empty square

-- a man put on an empty square adds the square's bit to the words of its kind and colour
pub placed : (men : List (Option Man)) (ks ss : List ℕ) (s : ℕ) (x : Man) → Agrees men ks ss → length men ≡ 64 → s < 64 → man_on men s ≡ None
    → Agrees (set men s (Some x)) (set ks (kind_number x.kind) (bit_or (get_or ks (kind_number x.kind) 0) (1 * 2 ^ s % 2 ^ 64)))
    (set ss (colour_number x.colour) (bit_or (get_or ss (colour_number x.colour) 0) (1 * 2 ^ s % 2 ^ 64)))
unfolding kind_bitboards side_bitboards
placed men ks ss s x is l p empty = grind (arith, word_with, word_same, same_colour-refl)

-- ---- a man is taken off

-- a man taken off removes its square's bit from both words
pub lifted : (men : List (Option Man)) (ks ss : List ℕ) (s : ℕ) (x : Man) → Agrees men ks ss → length men ≡ 64 → s < 64 → man_on men s ≡ Some x
    → Agrees (set men s None) (set ks (kind_number x.kind) (bit_and (get_or ks (kind_number x.kind) 0) (bit_not w64 (1 * 2 ^ s % 2 ^ 64))))
    (set ss (colour_number x.colour) (bit_and (get_or ss (colour_number x.colour) 0) (bit_not w64 (1 * 2 ^ s % 2 ^ 64))))
unfolding kind_bitboards side_bitboards
lifted men ks ss s x is l p held = grind (arith, word_without, word_same)

-- ---- what is read

-- a colour's kept word is that of its men's squares
pub side_kept : (men : List (Option Man)) (ks ss : List ℕ) (c : Colour) → Agrees men ks ss
    → get_or ss (colour_number c) 0 ≡ word_of (λ x. is_of_colour x c) men
unfolding side_bitboards
side_kept men ks ss c is = grind arith

-- a kind's kept word is that of its men's squares
pub kind_kept : (men : List (Option Man)) (ks ss : List ℕ) (k : Kind) → Agrees men ks ss → get_or ks (kind_number k) 0 ≡ word_of (λ y. is_kind y k) men
unfolding kind_bitboards
kind_kept men ks ss k is = grind arith

-- what both words have are the squares of the men of this colour and kind
pub men_kept : (men : List (Option Man)) (ks ss : List ℕ) (c : Colour) (k : Kind) → length men ≡ 64 → Agrees men ks ss
    → bit_and (get_or ss (colour_number c) 0) (get_or ks (kind_number k) 0) ≡ word_of (λ x. is_man x c k) men
men_kept men ks ss c k l is = grind (arith, side_kept men ks ss c is, kind_kept men ks ss k is, word_both)
