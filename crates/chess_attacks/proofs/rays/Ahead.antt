-- The squares of a line, one after another.
use Rattle.chess_attacks.proofs.Chess.{Bool, Direction, Some, Step, add-mul, along, and_from, ap, arith, cases_eq, cases_lt, eq-eqb, false, file_of, is_on_board, le-leb, leb-true, mul-add, not, place, rank_of, refl, rises, rules, some_is, step_of, true, ℕ, ◌&&◌, ◌*◌, ◌+◌, ◌-◌, ◌<◌, ◌==◌, ◌∙◌, ◌≡◌, ◌≤◌}
use Rattle.chess_attacks.proofs.rays.Ends.{Placed, cond-on, on_board, placed_from}

further : (f j i r l : ℕ) → 1 ≤ f + j * r - j * l → f + j * r - j * l + i * r - i * l ≡ f + (j + i) * r - (j + i) * l
further f j i r l on = search rules

-- j steps and then i steps
pub onward : (s b : ℕ) (d : Step) (j i : ℕ) → along s d j ≡ Some b → along b d i ≡ along s d (j + i)
unfolding along
onward s b d j i h = grind (arith, placed_from, further)

-- between two files or ranks of the board lie others of it
within : (f k i r l : ℕ) → 1 ≤ f → f ≤ 8 → i ≤ k → 1 ≤ f + k * r - k * l → f + k * r - k * l ≤ 8 → (1 ≤ f + i * r - i * l) × (f + i * r - i * l ≤ 8)
within f k i r l a b le low high = grind (arith, cases_lt r l, mul-add k, mul-add i, add-mul i (k - i))

-- a square before t on its line
pub record Passed (s : ℕ) (d : Step) (i q : ℕ) : Type 0 where
  pub at : along s d i ≡ Some q
  pub small : q < 64

-- a line that reaches a square of the board crosses only squares of the board before it
pub passes : (s t : ℕ) (d : Step) (k i : ℕ) → s < 64 → i ≤ k → along s d k ≡ Some t → (q : ℕ) × Passed s d i q
unfolding along
passes s t d k i p le h =
    let e : Placed (file_of s + k * d.right - k * d.left) (rank_of s + k * d.up - k * d.down) t = placed_from _ _ t h in
    let f = within (file_of s) k i d.right d.left (omega arith) (omega arith) le e.f_low e.f_high in
    let r = within (rank_of s) k i d.up d.down (omega arith) (omega arith) le e.r_low e.r_high in
    let ff : ℕ = file_of s + i * d.right - i * d.left in
    let rr : ℕ = rank_of s + i * d.up - i * d.down in (
      8 * (rr - 1) + (ff - 1),
      record {
        at = cond-on (is_on_board ff && is_on_board rr) (8 * (rr - 1) + (ff - 1)) (8 * (rr - 1) + (ff - 1))
            (and_from _ _ (on_board ff f.0 f.1) (on_board rr r.0 r.1)) refl;
        small = omega (arith, f.0, f.1, r.0, r.1);
      },
    )

-- the number of the square that lies k steps on
number_at : (s q : ℕ) (d : Step) (k : ℕ) → along s d k ≡ Some q → (q + k * (d.left + 8 * d.down) ≡ s + k * (d.right + 8 * d.up)) × (q < 64)
unfolding along
number_at s q d k h = search rules

-- e more for each step
apart : (j k e : ℕ) → j < k → 0 < e → j * e < k * e
apart j k e lt some = search rules

over : (j a b : ℕ) → a < b → j * b ≡ j * a + j * (b - a)
over j a b lt = let e : b ≡ a + (b - a) = omega arith in ap (λ n. j * n) e ∙ mul-add j a (b - a)

grows : (s p q j k a b : ℕ) → p + j * a ≡ s + j * b → q + k * a ≡ s + k * b → j < k → a < b → p < q
grows s p q j k a b h i lt up = grind (arith, over j a b up, over k a b up, apart j k (b - a) lt (omega arith))

shrinks : (s p q j k a b : ℕ) → p + j * a ≡ s + j * b → q + k * a ≡ s + k * b → j < k → b < a → q < p
shrinks s p q j k a b h i lt down = grind (arith, over j b a down, over k b a down, apart j k (a - b) lt (omega arith))

-- a line passes its squares in order
pub record Ordered (d : Step) : Type 0 where
  pub in_order : (s j k b t : ℕ) → along s d j ≡ Some b → along s d k ≡ Some t → j < k → place d b < place d t

-- a square that a line passes no later than another is no more steps away
pub not_later : (s j k b t : ℕ) (d : Step) → Ordered d → along s d j ≡ Some b → along s d k ≡ Some t → place d b ≤ place d t → j ≤ k
not_later s j k b t d line h i le = search (rules, cases_lt)

-- a square that a line passes earlier than another is fewer steps away
pub earlier : (s j k b t : ℕ) (d : Step) → Ordered d → along s d j ≡ Some b → along s d k ≡ Some t → place d b < place d t → j < k
earlier s j k b t d line h i lt = search (rules, cases_eq, some_is, not_later)

rising : (d : Step) → rises d ≡ true → Ordered d
unfolding rises
rising d up = record {
  in_order = λ s j k b t h i lt.
      grind (arith, number_at s b d j h, number_at s t d k i, grows s b t j k, leb-true (d.left + 8 * d.down + 1) (d.right + 8 * d.up) up);
}

falling : (d : Step) → rises d ≡ false → d.right + 8 * d.up < d.left + 8 * d.down → Ordered d
unfolding rises
falling d non down = record {
  in_order = λ s j k b t h i lt. grind (arith, number_at s b d j h, number_at s t d k i, shrinks s b t j k (d.left + 8 * d.down) (d.right + 8 * d.up));
}

-- the number of a square changes by this step
abbrev pub moves_on : Step → Bool
moves_on d = not (d.right + 8 * d.up == d.left + 8 * d.down)

-- a line whose step changes the number passes its squares in order
pub ordered_on : (d : Step) → moves_on d ≡ true → Ordered d
unfolding rises
ordered_on d on = grind (arith, cases_lt (d.left + 8 * d.down) (d.right + 8 * d.up), rising d, falling d, le-leb, eq-eqb)

-- each of the sixteen directions does
pub ordered : (x : Direction) → Ordered (step_of x)
unfolding rises
ordered x = grind (arith, rising, falling)
