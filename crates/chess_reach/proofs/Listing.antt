-- The men of a side, listed one after another.
use Rattle.chess_attacks.proofs.Chess.{Bool, Colour, King, List, Man, Option, Some, and_parts, ap, arith, bit_and, bit_at, bit_not, cases_eq, cond-false, cond-true, false, inl, inr, is_man, is_of_colour, length, man_on, not, range_with_len, refl, same_colour-true, square_word_small, subst, suc, sym, true, w64, word_has, zero, ℕ, ◌+◌, ◌<◌, ◌==◌, ◌^◌, ◌∙◌, ◌≡◌, ◌≢◌, ◌≤◌, if◌then◌else◌}
unfoldable use Rattle.chess_attacks.proofs.Chess.{side_of, squares_of, squares}
use Rattle.std.proofs.Common.{slice_set}
use Rattle.std.specs.List.{sum_by}
use Rattle.std.proofs.lemmas.List.{get_or-set_other, get_or-set_same}
use Rattle.std.proofs.lemmas.List.Sums.{sum_by-cons}
use Rattle.chess_attacks.specs.ties.Taking.{IsPopped}
use Rattle.chess_reach.proofs.Bitboards.{denied_on}
use Rattle.chess_reach.proofs.Holding.{sum_less, sum_within}
use Rattle.chess_reach.specs.declared.guards.Guard.{Guard}
use Rattle.chess_reach.specs.ties.Guards.{guard_at, is_blocker, unused}

-- the squares of a side
pub side_has : (men : List (Option Man)) (c : Colour) (w s : ℕ) → w ≡ side_of men c → s < 64 → (bit_at w s == 1) ≡ is_of_colour (man_on men s) c
unfolding side_of
side_has men c w s h small = word_has (λ s. is_of_colour (man_on men s) c) w s h small

-- a man of a side, by the side's colour
pub man_of_side : (men : List (Option Man)) (c : Colour) (s : ℕ) (o : Option Man) (x : Man) → o ≡ man_on men s → o ≡ Some x → is_of_colour (man_on men s) c ≡ true
    → man_on men s ≡ Some (record { colour = c; kind = x.kind })
man_of_side men c s o x known is mine =
    let there : man_on men s ≡ Some x = sym known ∙ is in
    let same : x.colour ≡ c = same_colour-true x.colour c (sym (ap (λ o. is_of_colour o c) there) ∙ mine) in
    there ∙ ap (λ k. Some (record { colour = k; kind = x.kind })) same

is_off : (b : Bool) → not b ≡ true → b ≡ false
is_off b h = grind arith

-- a man that may block is on a square of its side's bitboard without the king
pub blocker_on : (men : List (Option Man)) (c : Colour) (a k s : ℕ) → a ≡ side_of men c → k ≡ squares_of men c King → s < 64 → is_blocker men c s ≡ true
    → (bit_at (bit_and a (bit_not w64 k)) s == 1) ≡ true
unfolding squares_of
blocker_on men c a k s h i small blocker =
    let parts = and_parts (is_of_colour (man_on men s) c) (not (is_man (man_on men s) c King)) blocker in
    denied_on a k s (subst (λ n. n < 2 ^ 64) (sym i) (square_word_small (λ s. is_man (man_on men s) c King))) small (side_has men c a s h small ∙ parts.0)
    (word_has (λ s. is_man (man_on men s) c King) k s i small ∙ is_off _ parts.1)

-- a sum with one number more
sum_more : (f : ℕ → ℕ) (a n : ℕ) → sum_by f (range_with_len a (suc n)) ≡ sum_by f (range_with_len a n) + f (a + n)
sum_more f a zero = omega (arith, sum_by-cons f a (range_with_len (a + 1) 0), ap f (let e : a + 0 ≡ a = omega arith in e))
sum_more f a (suc n) =
    omega (
      arith,
      sum_by-cons f a (range_with_len (a + 1) (suc n)),
      sum_by-cons f a (range_with_len (a + 1) n),
      sum_more f (a + 1) n,
      ap f (let e : a + 1 + n ≡ a + suc n = omega arith in e),
    )

-- at first no man is listed
pub sum_first : (men : List (Option Man)) (c : Colour) (w : ℕ) (f : ℕ → ℕ) → w ≡ side_of men c
    → sum_by (λ s. if bit_at w s == 1 then f s else 0) squares ≤ sum_by (λ s. if is_of_colour (man_on men s) c then f s else 0) squares
unfolding squares
sum_first men c w f h = sum_within (λ s. if is_of_colour (man_on men s) c then f s else 0) (λ s. if bit_at w s == 1 then f s else 0) 0 64
    (λ s small. omega (arith, ap (λ b. if b then f s else 0) (side_has men c w s h (omega (arith, small)))))

-- one man more is listed
module _ (gs : List Guard) (n : ℕ) (g : Guard) (room : n < length gs) where
  listed_same : (i : ℕ) → i ≡ n → guard_at (slice_set gs n g) i ≡ g
  listed_same i same = ap (λ k. guard_at (slice_set gs n g) k) same ∙ get_or-set_same gs n g unused room

  listed_other : (i : ℕ) → i ≢ n → guard_at (slice_set gs n g) i ≡ guard_at gs i
  listed_other i off = get_or-set_other gs n i g unused off

  -- what holds of each listed man and of the new one
  pub listed : (P : Guard → Type 0) → ((i : ℕ) → i < n → P (guard_at gs i)) → P g → (i : ℕ) → i < n + 1 → P (guard_at (slice_set gs n g) i)
  listed P before here i lt = elim (cases_eq i n) [
    | inl same ↦ subst P (sym (listed_same i same)) here
    | inr off ↦ subst P (sym (listed_other i off)) (before i (omega (arith, lt, off)))
  ]

  -- the listed men stay
  pub still_listed : (s : ℕ) → ((i : ℕ) × (i < n) × ((guard_at gs i).from ≡ s)) → (i : ℕ) × (i < n + 1) × ((guard_at (slice_set gs n g) i).from ≡ s)
  still_listed s (i, lt, is) = (i, omega (arith, lt), ap (λ (x : Guard). x.from) (listed_other i (λ e. absurd (omega (arith, lt, e)))) ∙ is)

  -- the new one is listed
  pub now_listed : (i : ℕ) × (i < n + 1) × ((guard_at (slice_set gs n g) i).from ≡ g.from)
  now_listed = (n, omega arith, ap (λ (x : Guard). x.from) (listed_same n refl))

  pub sum_next : (f : ℕ → ℕ) (rest left total : ℕ) → IsPopped rest g.from left
      → sum_by (λ i. f (guard_at gs i).from) (range_with_len 0 n) + sum_by (λ s. if bit_at rest s == 1 then f s else 0) squares ≤ total
      → sum_by (λ i. f (guard_at (slice_set gs n g) i).from) (range_with_len 0 (n + 1)) + sum_by (λ s. if bit_at left s == 1 then f s else 0) squares ≤ total
  unfolding squares
  sum_next f rest left total taken before =
      let new : ℕ → ℕ = λ i. f (guard_at (slice_set gs n g) i).from in
      let old : ℕ → ℕ = λ i. f (guard_at gs i).from in
      let size : n + 1 ≡ suc n = omega arith in
      let more : sum_by new (range_with_len 0 (n + 1)) ≡ sum_by new (range_with_len 0 n) + new (0 + n) = ap (λ k. sum_by new (range_with_len 0 k)) size ∙ sum_more new 0 n in
      let last : new (0 + n) ≡ f g.from = ap new (let e : 0 + n ≡ n = omega arith in e) ∙ ap (λ (x : Guard). f x.from) (listed_same n refl) in
      let others : sum_by new (range_with_len 0 n) ≤ sum_by old (range_with_len 0 n) = sum_within old new 0 n (λ j lt. omega (
        arith,
        ap (λ (x : Guard). f x.from) (listed_other j (λ e. absurd (omega (arith, lt, e)))),
      )) in
      omega (arith, before, more, last, others, popped)
    where
      of : ℕ → ℕ → ℕ
      of w s = if bit_at w s == 1 then f s else 0

      fewer : (s : ℕ) → of left s ≤ of rest s
      fewer s = elim (cases_eq g.from s) [
        | inl same ↦ omega (arith, cond-false (bit_at left s == 1) (f s) 0 (subst (λ k. (bit_at left k == 1) ≡ false) same taken.gone))
        | inr off ↦ omega (arith, ap (λ b. if b == 1 then f s else 0) (taken.others s off))
      ]

      popped : sum_by (of left) (range_with_len 0 64) + f g.from ≤ sum_by (of rest) (range_with_len 0 64)
      popped = sum_less (of rest) (of left) 0 64 g.from (f g.from) (omega arith) (omega (arith, taken.small)) (λ j lt. fewer j)
          (omega (arith, cond-false (bit_at left g.from == 1) (f g.from) 0 taken.gone, cond-true (bit_at rest g.from == 1) (f g.from) 0 taken.here))
