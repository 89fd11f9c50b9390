-- Lines seen from their other end.
use Rattle.chess_attacks.proofs.Chess.{Bool, None, Option, Some, Step, add-mul, along, and_from, arith, cond, eq-eqb, eqb-true, false≢true, file_of, first_of_and, is_on_board, is_square, le-leb, leb-true, rank_of, refl, rules, second_of_and, some_is, square_at, true, ℕ, ◌&&◌, ◌*◌, ◌+◌, ◌-◌, ◌<◌, ◌≡◌, ◌≤◌}

-- the step the other way
abbrev pub back : Step → Step
back d = record { right = d.left; left = d.right; up = d.down; down = d.up }

-- what a square's file and rank are
pub record Placed (f r t : ℕ) : Type 0 where
  pub f_low : 1 ≤ f
  pub f_high : f ≤ 8
  pub r_low : 1 ≤ r
  pub r_high : r ≤ 8
  pub file : file_of t ≡ f
  pub rank : rank_of t ≡ r

placed_at : (f r t : ℕ) → 1 ≤ f → f ≤ 8 → 1 ≤ r → r ≤ 8 → 8 * (r - 1) + (f - 1) ≡ t → Placed f r t
placed_at f r t a b c d e = record { f_low = a; f_high = b; r_low = c; r_high = d; file = omega arith; rank = omega arith }

placed_by : (f r t : ℕ) (b : Bool) → (is_on_board f && is_on_board r) ≡ b → cond b (Some (8 * (r - 1) + (f - 1))) None ≡ Some t → Placed f r t
placed_by f r t b on h = grind (arith, first_of_and, leb-true, placed_at, second_of_and, some_is)

-- a square made of file and rank has that file and that rank
pub placed_from : (f r t : ℕ) → square_at f r ≡ Some t → Placed f r t
placed_from f r t h = placed_by f r t (is_on_board f && is_on_board r) refl h

-- i steps on from one end and k - i steps back from the other
part : (f k i r l : ℕ) → i ≤ k → 1 ≤ f + k * r - k * l → f + k * r - k * l + (k - i) * l - (k - i) * r ≡ f + i * r - i * l
part f k i r l le on = search (rules, add-mul)

-- the squares of a line are the same, counted back from its end
between : (s t : ℕ) (d : Step) (k i : ℕ) → i ≤ k → along s d k ≡ Some t → along t (back d) (k - i) ≡ along s d i
unfolding along
between s t d k i le h = grind (arith, placed_from, part)

-- files and ranks from 1 to 8 are on the board
pub on_board : (x : ℕ) → 1 ≤ x → x ≤ 8 → is_on_board x ≡ true
on_board x a b = and_from _ _ (le-leb 1 x a) (le-leb x 8 b)

-- a square given on a test is there where the test is met
pub cond-on : (b : Bool) (s n : ℕ) → b ≡ true → n ≡ s → cond b (Some n) None ≡ Some s
cond-on b s n h e = grind (arith, false≢true)

-- after zero steps the square is the same
pub stays : (s : ℕ) (d : Step) → s < 64 → along s d 0 ≡ Some s
unfolding along
stays s d p = search rules

-- on a line of k = i + j steps, j steps back from the end and i steps from the start lead to one square
pub mirrored : (s t : ℕ) (d : Step) (k i j : ℕ) → i + j ≡ k → along s d k ≡ Some t → along t (back d) j ≡ along s d i
mirrored s t d k i j e h = let same : k - i ≡ j = omega arith in rw same at (between s t d k i (omega arith) h)

-- an option that meets the test of a square holds this square
pub square_is : (o : Option ℕ) (t : ℕ) → is_square o t ≡ true → o ≡ Some t
square_is o t h = grind (arith, false≢true, eqb-true)

-- as many steps lead back from t to s as lead from s to t
pub return_square : (s t : ℕ) (d : Step) (k : ℕ) → s < 64 → is_square (along s d k) t ≡ true → is_square (along t (back d) k) s ≡ true
return_square s t d k p h = grind (arith, square_is _ t h, between s t d k 0 (omega arith), stays s d p, eq-eqb s s refl)
