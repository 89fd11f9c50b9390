-- The men that attacks depend on after a move.
use Rattle.chess_rules.proofs.Chess.{DescribesMen, Bool, Colour, Kind, King, List, Man, None, Option, Some, and_left, ap, arith, bit_not, cases_Bool, cases_eq, differs, eq-eqb, eqb-true, false, false≢true, is_man, is_of_colour, is_some, is_square, joined, king_square, length, man_on, man_on-with_other, man_on-without_other, man_on-without_same, not, or_cases, or_parts, or_right, other, refl, rules, same_colour, shared, occupancy_after, squares, squares_either, squares_not, squares_of, squares_same, true, w64, with_man, without_at, without_man, word, ℕ, ◌&&◌, ◌<◌, ◌||◌, ◌∙◌, ◌≡◌, ◌≢◌}
use Rattle.chess_rules.proofs.Plays.{stays_empty}

-- a man is on s after the men on a and o have left and one has come to b
abbrev pub is_occupied_after : List (Option Man) → ℕ → Option ℕ → ℕ → ℕ → Bool
is_occupied_after men a o b s = (is_some (man_on men s) && not (is_square (Some a) s || is_square o s)) || is_square (Some b) s

-- the words after a move, by tests
pub occupied_words : (men : List (Option Man)) (a : ℕ) (o : Option ℕ) (b : ℕ) → (occupancy_after men a o b).occupied ≡ word (is_occupied_after men a o b)
occupied_words men a o b = joined _ _ _ _ (shared _ _ _ _ refl (ap (bit_not w64) (squares_either _ _) ∙ squares_not _)) refl

-- the men once z has come from a to b and the man on o is gone
abbrev pub gone_to : List (Option Man) → ℕ → Option ℕ → ℕ → Man → List (Option Man)
gone_to men a o b z = with_man (without_at (without_man men a) o) b z

-- on the arrival stands the man that came
pub there_now : (men : List (Option Man)) (a : ℕ) (o : Option ℕ) (b : ℕ) (z : Man) → b < length men → man_on (gone_to men a o b z) b ≡ Some z
there_now men a o b z small = search rules

gone_at : (men : List (Option Man)) (o : Option ℕ) (q : ℕ) → is_square o q ≡ true → man_on (without_at men o) q ≡ None
gone_at men o q h = grind (arith, false≢true, eqb-true, man_on-without_same)

-- origin and square of capture are empty, unless the man came there
pub left_now : (men : List (Option Man)) (a : ℕ) (o : Option ℕ) (b : ℕ) (z : Man) (q : ℕ) → q ≢ b → (is_square (Some a) q || is_square o q) ≡ true
    → man_on (gone_to men a o b z) q ≡ None
left_now men a o b z q ne h =
    let left = without_man men a in
    let beside = man_on-with_other (without_at left o) b q z ne in
    grind (arith, beside, or_cases (is_square (Some a) q), stays_empty left o q, gone_at men (Some a) q, gone_at left o q)

-- every other square is as it was
pub kept_now : (men : List (Option Man)) (a : ℕ) (o : Option ℕ) (b : ℕ) (z : Man) (q : ℕ) → q ≢ b → (is_square (Some a) q || is_square o q) ≡ false
    → man_on (gone_to men a o b z) q ≡ man_on men q
kept_now men a o b z q ne h = grind (arith, or_parts, man_on-with_other, ne, h, man_on-without_other, false≢true, eq-eqb)

-- the test says on which squares men stand after the move
pub occupied_now : (men : List (Option Man)) (a : ℕ) (o : Option ℕ) (b : ℕ) (z : Man) (q : ℕ) → b < length men
    → is_occupied_after men a o b q ≡ is_some (man_on (gone_to men a o b z) q)
occupied_now men a o b z q small = search (rules, cases_Bool, cases_eq, differs, eq-eqb, kept_now, left_now, or_right, there_now)

-- what must hold of the man on the origin, of the arriving man, and of the arrival
pub record IsCapture (men : List (Option Man)) (a : ℕ) (o : Option ℕ) (b : ℕ) (z : Man) (c : Colour) : Type 0 where
  pub small : b < length men
  pub own : is_of_colour (man_on men a) (other c) ≡ false
  pub arriving_man : same_colour z.colour (other c) ≡ false
  pub captured : is_some (man_on men b) ≡ true → is_square o b ≡ true

-- where no man of a colour stands, none of this colour and any kind does
pub no_man : (o : Option Man) (c : Colour) (k : Kind) → is_of_colour o c ≡ false → is_man o c k ≡ false
no_man o c k h = grind (arith, and_left)

-- a test that only enemies meet, on each square
met_now : (men : List (Option Man)) (a : ℕ) (o : Option ℕ) (b : ℕ) (z : Man) (c : Colour) (q : ℕ) (test : Option Man → Bool) → IsCapture men a o b z c
    → ((x : Option Man) → is_of_colour x (other c) ≡ false → test x ≡ false)
    → (test (man_on men q) && not (is_square o q)) ≡ test (man_on (gone_to men a o b z) q)
met_now men a o b z c q test i none =
    grind (arith, cases_eq q b, there_now, left_now, kept_now, cases_Bool (is_square o q), cases_Bool (is_square (Some a) q), none, eqb-true a q, false≢true)

enemy_now : (men : List (Option Man)) (a : ℕ) (o : Option ℕ) (b : ℕ) (z : Man) (c : Colour) (k : Kind) (q : ℕ) → IsCapture men a o b z c
    → (is_man (man_on men q) (other c) k && not (is_square o q)) ≡ is_man (man_on (gone_to men a o b z) q) (other c) k
enemy_now men a o b z c k q i = met_now men a o b z c q (λ x. is_man x (other c) k) i (λ x. no_man x (other c) k)

-- the bitboards after a move describe the men after it
pub seen_after : (men : List (Option Man)) (a : ℕ) (o : Option ℕ) (b : ℕ) (z : Man) (c : Colour) → IsCapture men a o b z c
    → DescribesMen men (gone_to men a o b z) (other c) (occupancy_after men a o b)
unfolding squares_of
seen_after men a o b z c i = record {
  occupied = occupied_words men a o b ∙ squares_same _ _ (λ q less. occupied_now men a o b z q i.small);
  standing = λ k. shared _ _ _ _ refl (squares_not (is_square o)) ∙ squares_same _ _ (λ q less. enemy_now men a o b z c k q i);
}

-- no king goes, arrives, or is captured
pub record IsNoKing (men : List (Option Man)) (a : ℕ) (o : Option ℕ) (b : ℕ) (z : Man) (c : Colour) : Type 0 where
  pub small : b < length men
  pub here : is_man (man_on men a) c King ≡ false
  pub comes : is_man (Some z) c King ≡ false
  pub arrival : is_man (man_on men b) c King ≡ false
  pub captured : (s : ℕ) → is_square o s ≡ true → is_man (man_on men s) c King ≡ false

king_now : (men : List (Option Man)) (a : ℕ) (o : Option ℕ) (b : ℕ) (z : Man) (c : Colour) (q : ℕ) → IsNoKing men a o b z c
    → is_man (man_on (gone_to men a o b z) q) c King ≡ is_man (man_on men q) c King
king_now men a o b z c q i =
    grind (arith, cases_eq q b, there_now men a o b z i.small, cases_Bool (is_square (Some a) q || is_square o q), left_now, or_cases, eqb-true a q, kept_now)

-- if no king goes, arrives or is captured, the king keeps its square
pub king_stands : (men : List (Option Man)) (a : ℕ) (o : Option ℕ) (b : ℕ) (z : Man) (c : Colour) → IsNoKing men a o b z c
    → king_square (gone_to men a o b z) c ≡ king_square men c
unfolding king_square squares
king_stands men a o b z c i = search (rules, king_now)
