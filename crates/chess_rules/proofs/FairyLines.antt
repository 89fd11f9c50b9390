-- Lines of grasshoppers and nightriders to a square: men off the lines don't matter.
use Rattle.chess_rules.proofs.Chess.{Bool, Colour, Direction, Grasshopper, Kind, List, Man, Nightrider, None, Option, Some, Step, [], along, and_from, and_left, and_right, any_range_true, ap, arith, bit_or, eq-eqb, false, false_from_ne_true, false≢true, has_fairy, hops, is_ahead, is_lined, is_man, is_occupied, is_on_fairy_line, is_on_fairy_line_at, is_square, joined, king_square, knight_steps, list_any, man_on, may_be_hurdle, or_cases, or_left, or_parts, or_right, other, place, queen_steps, refl, rides, rules, some_square, some_square_false, some_square_true, squares_same, step_of, sym, true, word, word_empty, ℕ, ◌&&◌, ◌-◌, ◌<◌, ◌||◌, ◌∙◌, ◌∷◌, ◌≡◌, ◌≤◌, ◌⊎◌}
use Rattle.chess_attacks.proofs.rays.Ahead.{ordered}
use Rattle.chess_attacks.proofs.rays.Ends.{back, mirrored, square_is, stays}
use Rattle.chess_attacks.proofs.rays.Ways.{hop-found, hop-made, ride-found, ride-made}
use Rattle.chess_attacks.proofs.rays.Flips.{backward}
use Rattle.chess_attacks.proofs.rays.Parting.{Frees}
use Rattle.chess_attacks.proofs.rays.Lined.{queen_directions, knight_directions}

-- what is occupied among the first men is occupied among the others, b apart
pub record Holds (men others : List (Option Man)) (b : ℕ) : Type 0 where
  pub occupied : (o : Option ℕ) → is_occupied men o ≡ true → is_square o b ≡ false → is_occupied others o ≡ true

-- the squares of a line from s to k lie on that from k
ahead_on : (s k : ℕ) (d : Step) (n i q : ℕ) → along s d n ≡ Some k → i < n → n ≤ 7 → is_square (along s d i) q ≡ true → is_ahead k (back d) q ≡ true
unfolding is_ahead
ahead_on s k d n i q at lt le here =
    any_range_true (λ j. is_square (along k (back d) j) q) 1 7 (n - i) (omega arith) (omega arith)
    (ap (λ o. is_square o q) (mirrored s k d n i (n - i) (omega arith) at) ∙ here)

its_own : (s k : ℕ) (d : Step) (n : ℕ) → s < 64 → along s d n ≡ Some k → 1 ≤ n → n ≤ 7 → is_ahead k (back d) s ≡ true
its_own s k d n small at low le = ahead_on s k d n 0 s at (omega arith) le (ap (λ o. is_square o s) (stays s d small) ∙ eq-eqb s s refl)

-- no line from s to k in this direction passes a
abbrev pub IsBeside : ℕ → ℕ → ℕ → Step → Type 0
IsBeside a s k d = (n i : ℕ) → along s d n ≡ Some k → 1 ≤ i → i < n → n ≤ 7 → is_square (along s d i) a ≡ false

-- no line from s to k in this direction passes a right before k, where a hurdle would be
abbrev pub IsNoHurdle : ℕ → ℕ → ℕ → Step → Type 0
IsNoHurdle a s k d = (n : ℕ) → along s d n ≡ Some k → 2 ≤ n → n ≤ 7 → is_square (along s d (n - 1)) a ≡ false

-- a ride from s to k is one before a man left a, off the line
pub ride_kept : (men after : List (Option Man)) (a s k : ℕ) (d : Step) → Frees after men a → IsBeside a s k d → rides after s k d ≡ true
    → rides men s k d ≡ true
ride_kept men after a s k d i beside h = let w = ride-found after s k d h in ride-made men s k d w.0 (search rules)

-- a hop from s to k is one before a man left a, off the line, and another came to b, which is off it between them
pub hop_kept : (men after : List (Option Man)) (a b s k : ℕ) (d : Step) → Frees after men a → Holds after men b → IsBeside a s k d → IsNoHurdle b s k d
    → hops after s k d ≡ true → hops men s k d ≡ true
hop_kept men after a b s k d i o beside none_there h = let w = hop-found after s k d h in hop-made men s k d w.0 (grind arith)

any_off : (xs : List Direction) (f g u v : Direction → Bool) → ((x : Direction) → u x ≡ false → v x ≡ false → f x ≡ true → g x ≡ true)
    → list_any u xs ≡ false → list_any v xs ≡ false → list_any f xs ≡ true → list_any g xs ≡ true
any_off [] f g u v each p q h = h
any_off (x ∷ xs) f g u v each p q h = search (rules, each, any_off xs f g u v each, or_cases, or_left, or_parts, or_right)

-- a line doesn't come back to a square
pub once : (k i n t : ℕ) (x : Direction) → i < n → along k (step_of x) i ≡ Some t → along k (step_of x) n ≡ Some t → ⊥
once k i n t x lt here there =
    let less : place (step_of x) t < place (step_of x) t = (ordered x).in_order k i n t t here there lt in
    absurd (omega arith)

-- a man of kind j and colour e was on s, or has gone from a to b, which is s
abbrev pub WasThere : List (Option Man) → Colour → Kind → ℕ → ℕ → ℕ → Type 0
WasThere men e j a b s = (is_man (man_on men s) e j ≡ true) ⊎ ((s ≡ b) × (a < 64) × (is_man (man_on men a) e j ≡ true))

module _ (men after : List (Option Man)) (e : Colour) (a b k s : ℕ) (i : Frees after men a) (small : s < 64) where
  -- a square that no line joins to a man of kind j is on no line with that man
  unlined : (j : Kind) (q t : ℕ) (d : Step) → is_lined men e j k t d ≡ false → q < 64 → is_man (man_on men q) e j ≡ true → is_ahead k d q ≡ true
      → is_ahead k d t ≡ false
  unlined j q t d off inside man ahead = search (rules, false_from_ne_true, false≢true, and_from, some_square_true)

  beside : (j : Kind) (d : Step) → WasThere men e j a b s → is_lined men e j k a (back d) ≡ false → IsBeside a s k d
  beside j d was off = grind (arith, its_own, ahead_on, unlined, false_from_ne_true, false≢true)

  no_hurdle : (x : Direction) → WasThere men e Grasshopper a b s → is_lined men e Grasshopper k b (back (step_of x)) ≡ false → IsNoHurdle b s k (step_of x)
  no_hurdle x was off = grind (arith, its_own, ahead_on, unlined, false_from_ne_true, false≢true, once, stays s (step_of x) small, square_is)

  -- a grasshopper that stands where it stood hops as it hopped, and one that has come from a as it would have hopped
  pub hopper_before : Holds after men b → WasThere men e Grasshopper a b s → list_any (is_lined men e Grasshopper k a) queen_steps ≡ false
      → list_any (is_lined men e Grasshopper k b) queen_steps ≡ false → list_any (hops after s k) queen_steps ≡ true → list_any (hops men s k) queen_steps
      ≡ true
  hopper_before o was p q h =
      any_off queen_directions (λ x. hops after s k (step_of x)) (λ x. hops men s k (step_of x)) (λ x. is_lined men e Grasshopper k a (back (step_of x)))
      (λ x. is_lined men e Grasshopper k b (back (step_of x))) (search (rules, hop_kept, beside, no_hurdle))
      (backward queen_steps (is_lined men e Grasshopper k a) refl ∙ p) (backward queen_steps (is_lined men e Grasshopper k b) refl ∙ q) h

  -- a nightrider that stands where it stood rides as it rode, and one that has come from a as it would have
  -- ridden
  pub nightrider_before : WasThere men e Nightrider a b s → list_any (is_lined men e Nightrider k a) knight_steps ≡ false
      → list_any (rides after s k) knight_steps ≡ true → list_any (rides men s k) knight_steps ≡ true
  nightrider_before was p h =
      let off = backward knight_steps (is_lined men e Nightrider k a) refl ∙ p in
      let lined : Direction → Bool = λ x. is_lined men e Nightrider k a (back (step_of x)) in
      any_off knight_directions (λ x. rides after s k (step_of x)) (λ x. rides men s k (step_of x)) lined lined
      (λ x u v ride. ride_kept men after a s k (step_of x) i (beside Nightrider (step_of x) was u) ride) off off h

-- a square on no fairy line is on no line with a grasshopper and on none with a nightrider
pub fairy_parts : (men : List (Option Man)) (e : Colour) (k t : ℕ) → is_on_fairy_line men e k t ≡ false
    → (list_any (is_lined men e Grasshopper k t) queen_steps ≡ false) × (list_any (is_lined men e Nightrider k t) knight_steps ≡ false)
unfolding is_on_fairy_line
fairy_parts men e k t h = or_parts (list_any (is_lined men e Grasshopper k t) queen_steps) (list_any (is_lined men e Nightrider k t) knight_steps) h

-- if there is no man of this kind, or no king, no square is lined
none_of : (p : ℕ → Bool) (q : ℕ) → some_square p ≡ false → q < 64 → p q ≡ false
none_of p q h lt = false_from_ne_true _ (λ y. false≢true (sym h ∙ some_square_true p q lt y))

no_man_lined : (men : List (Option Man)) (e : Colour) (j : Kind) (k t : ℕ) (ds : List Step) → some_square (λ s. is_man (man_on men s) e j) ≡ false
    → list_any (is_lined men e j k t) ds ≡ false
no_man_lined men e j k t [] h = refl
no_man_lined men e j k t (d ∷ ds) h =
    let nobody = some_square_false (λ q. is_man (man_on men q) e j && is_ahead k d q) 64 in
    grind (arith, nobody, and_left, none_of (λ s. is_man (man_on men s) e j), no_man_lined men e j k t ds h, and_right)

no_line : (men : List (Option Man)) (e : Colour) (k t : ℕ) → has_fairy men e ≡ false → is_on_fairy_line men e k t ≡ false
unfolding has_fairy is_on_fairy_line
no_line men e k t h =
    let n = or_parts (some_square (λ s. is_man (man_on men s) e Grasshopper)) (some_square (λ s. is_man (man_on men s) e Nightrider)) h in
    (λ i. no_man_lined men e Grasshopper k t queen_steps n.0 i || no_man_lined men e Nightrider k t knight_steps n.1 i)

-- without enemy fairy men no square is on a fairy line to the king
pub no_fairy_line : (men : List (Option Man)) (c : Colour) → has_fairy men (other c) ≡ false → 0 ≡ word (may_be_hurdle men c)
unfolding may_be_hurdle
no_fairy_line men c h = search (rules, no_line, word_empty)

-- without a king none is either
pub no_king_lined : (men : List (Option Man)) (c : Colour) → king_square men c ≡ None → 0 ≡ word (may_be_hurdle men c)
unfolding may_be_hurdle
no_king_lined men c h = word_empty _ (λ t b. ap (λ (o : Option ℕ). is_on_fairy_line_at men o c t) h)

-- the squares on a grasshopper's line to the king, and those on a nightrider's
pub fairy_lines_are : (men : List (Option Man)) (c : Colour) (k w n : ℕ) → king_square men c ≡ Some k
    → w ≡ word (λ t. list_any (is_lined men (other c) Grasshopper k t) queen_steps)
    → n ≡ word (λ t. list_any (is_lined men (other c) Nightrider k t) knight_steps) → bit_or w n ≡ word (may_be_hurdle men c)
unfolding may_be_hurdle is_on_fairy_line
fairy_lines_are men c k w n at h i = joined _ _ _ _ h i ∙ squares_same _ _ (λ t less. ap (λ (o : Option ℕ). is_on_fairy_line_at men o c t) (sym at))
