-- Bitboards moved over the board.
use Rattle.chess_reach.proofs.Chess.{Bool, Colour, King, Knight, List, None, Option, Some, Step, [], along, ap, arith, cases_Bool, cases_eq, cases_lt, false≢true, inl, inr, is_square, knight_steps, leaps, list_any, or_cases, queen_steps, range_with_len, reaches_as, refl, subst, sym, true, ℕ, ◌%◌, ◌*◌, ◌+◌, ◌-◌, ◌/◌, ◌<◌, ◌==◌, ◌^◌, ◌∙◌, ◌∷◌, ◌≡◌, ◌≤◌}
use Rattle.std.specs.Int.{bit_at}
use Rattle.std.specs.Prelude.{bit_and, bit_or}
use Rattle.std.specs.List.{list_all}
use Rattle.std.proofs.Math.Nat.{div-add-mod}
use Rattle.std.proofs.lemmas.Nat.{pow_pos, shr-shr}
use Rattle.std.proofs.lemmas.Nat.Bits.{bit_at-pow_other, bit_at-zero, bit_at_above, bit_at_cat_high, bit_at_cat_low, bit_at_or}
use Rattle.chess_attacks.proofs.Chess.{all_at, and_parts}
use Rattle.chess_attacks.proofs.Bits.{on_left, on_right}
use Rattle.chess_attacks.proofs.rays.Ends.{square_is}
use Rattle.chess_reach.proofs.Bitboards.{on_both, on_first, on_second}

-- a bitboard moved down or up by k squares
pub bit_down : (w k s : ℕ) → bit_at (w / 2 ^ k) s ≡ bit_at w (k + s)
bit_down w k s = ap (λ x. x % 2) (shr-shr w k s)

pub bit_up : (w k s : ℕ) → k ≤ s → s < 64 → bit_at (w * 2 ^ k % 2 ^ 64) s ≡ bit_at w (s - k)
bit_up w k s from small =
    let all = w * 2 ^ k in
    grind (arith, div-add-mod all (2 ^ 64), bit_at_cat_low (all / 2 ^ 64) 64 (all % 2 ^ 64) s small, bit_at_cat_high w k 0 s (pow_pos k) from, pow_pos k)

-- nothing comes to the lowest squares
up_low : (w k s : ℕ) → s < k → s < 64 → bit_at (w * 2 ^ k % 2 ^ 64) s ≡ 0
up_low w k s below small =
    let all = w * 2 ^ k in
    grind (arith, div-add-mod all (2 ^ 64), bit_at_cat_low (all / 2 ^ 64) 64 (all % 2 ^ 64) s small, bit_at_cat_low w k 0 s below, bit_at-zero s)

-- all squares of one bitboard are squares of another
unfoldable pub Within : ℕ → ℕ → Type 0
Within a b = (t : ℕ) → (bit_at a t == 1) ≡ true → (bit_at b t == 1) ≡ true

on_either : (a b t : ℕ) → (bit_at (bit_or a b) t == 1) ≡ true → (Q : Type 0) → ((bit_at a t == 1) ≡ true → Q) → ((bit_at b t == 1) ≡ true → Q) → Q
on_either a b t on Q left right = elim (cases_Bool (bit_at a t == 1)) [
  | inl here ↦ left here
  | inr off ↦ elim (cases_Bool (bit_at b t == 1)) [
    | inl here ↦ right here
    | inr too ↦ absurd (false≢true (sym (grind (arith, bit_at_or a b t, off, too)) ∙ on))
  ]
]

module _ (a b : ℕ) (inside : Within a b) where
  pub masked : (m : ℕ) → Within (bit_and a m) (bit_and b m)
  unfolding Within
  masked m t on = on_both b m t (inside t (on_first a m t on)) (on_second a m t on)

  pub down : (k : ℕ) → Within (a / 2 ^ k) (b / 2 ^ k)
  unfolding Within
  down k t on = ap (λ x. x == 1) (bit_down b k t) ∙ inside (k + t) (sym (ap (λ x. x == 1) (bit_down a k t)) ∙ on)

  pub up : (k : ℕ) → Within (a * 2 ^ k % 2 ^ 64) (b * 2 ^ k % 2 ^ 64)
  unfolding Within
  up k t on = elim (cases_lt t 64) [
    | inr high ↦ absurd (false≢true (sym (ap (λ x. x == 1) (bit_at_above (a * 2 ^ k % 2 ^ 64) 64 t (omega arith) (omega (arith, high)))) ∙ on))
    | inl low ↦ elim (cases_lt t k) [
      | inl below ↦ absurd (false≢true (sym (ap (λ x. x == 1) (up_low a k t below low)) ∙ on))
      | inr from ↦ ap (λ x. x == 1) (bit_up b k t (omega (arith, from)) low)
          ∙ inside (t - k) (sym (ap (λ x. x == 1) (bit_up a k t (omega (arith, from)) low)) ∙ on)
    ]
  ]

  pub joined : (c d : ℕ) → Within c d → Within (bit_or a c) (bit_or b d)
  unfolding Within
  joined c d too t on = on_either a c t on _ (λ x. on_left b d t (inside t x)) (λ x. on_right b d t (too t x))

-- one square of a bitboard
pub only_square : (s w : ℕ) → (bit_at w s == 1) ≡ true → Within (2 ^ s) w
unfolding Within
only_square s w on t at = elim (cases_eq t s) [
  | inl same ↦ subst (λ k. (bit_at w k == 1) ≡ true) (sym same) on
  | inr off ↦ absurd (false≢true (sym (ap (λ x. x == 1) (bit_at-pow_other s t off)) ∙ at))
]

-- the squares of a row around them
abbrev row : ℕ → ℕ
row w = bit_or (bit_or w (bit_and (w * 2 ^ 1 % 2 ^ 64) 18374403900871474942)) (bit_and (w / 2 ^ 1) 9187201950435737471)

abbrev kings : ℕ → ℕ
kings w = bit_or (bit_or (row w) (row w * 2 ^ 8 % 2 ^ 64)) (row w / 2 ^ 8)

row_grows : (a b : ℕ) → Within a b → Within (row a) (row b)
row_grows a b inside = joined _ _ (joined a b inside _ _ (masked _ _ (up a b inside 1) _)) _ _ (masked _ _ (down a b inside 1) _)

kings_grow : (a b : ℕ) → Within a b → Within (kings a) (kings b)
kings_grow a b inside =
    let rows = row_grows a b inside in
    joined _ _ (joined _ _ rows _ _ (up _ _ rows 8)) _ _ (down _ _ rows 8)

abbrev beside : ℕ → ℕ
beside w = bit_or (bit_and (w * 2 ^ 1 % 2 ^ 64) 18374403900871474942) (bit_and (w / 2 ^ 1) 9187201950435737471)

abbrev aside : ℕ → ℕ
aside w = bit_or (bit_and (w * 2 ^ 2 % 2 ^ 64) 18229723555195321596) (bit_and (w / 2 ^ 2) 4557430888798830399)

abbrev knights : ℕ → ℕ
knights w = bit_or w (bit_or (bit_or (bit_or (beside w * 2 ^ 16 % 2 ^ 64) (beside w / 2 ^ 16)) (aside w * 2 ^ 8 % 2 ^ 64)) (aside w / 2 ^ 8))

knights_grow : (a b : ℕ) → Within a b → Within (knights a) (knights b)
knights_grow a b inside =
    let near = joined _ _ (masked _ _ (up a b inside 1) _) _ _ (masked _ _ (down a b inside 1) _) in
    let far = joined _ _ (masked _ _ (up a b inside 2) _) _ _ (masked _ _ (down a b inside 2) _) in
    joined a b inside _ _ (joined _ _ (joined _ _ (joined _ _ (up _ _ near 16) _ _ (down _ _ near 16)) _ _ (up _ _ far 8)) _ _ (down _ _ far 8))

-- what is computed of each square to which a step leads
abbrev holds_at : (ℕ → Bool) → Option ℕ → Bool
holds_at f None = true
holds_at f (Some t) = f t

at_holds : (f : ℕ → Bool) (o : Option ℕ) (t : ℕ) → holds_at f o ≡ true → is_square o t ≡ true → f t ≡ true
at_holds f o t all at = rw (square_is o t at) at all

leap_holds : (f : ℕ → Bool) (ds : List Step) (s t : ℕ) → list_all (λ d. holds_at f (along s d 1)) ds ≡ true → list_any (leaps s t) ds ≡ true → f t ≡ true
unfolding leaps
leap_holds f [] s t all leap = absurd (false≢true leap)
leap_holds f (d ∷ ds) s t all leap =
    let parts = and_parts (holds_at f (along s d 1)) _ all in
    elim (or_cases (is_square (along s d 1) t) (list_any (leaps s t) ds) leap) [
      | inl here ↦ at_holds f (along s d 1) t parts.0 here
      | inr later ↦ leap_holds f ds s t parts.1 later
    ]

kings_alone : list_all (λ s. list_all (λ d. holds_at (λ t. bit_at (kings (2 ^ s)) t == 1) (along s d 1)) queen_steps) (range_with_len 0 64) ≡ true
unfolding along
kings_alone = refl

knights_alone : list_all (λ s. list_all (λ d. holds_at (λ t. bit_at (knights (2 ^ s)) t == 1) (along s d 1)) knight_steps) (range_with_len 0 64) ≡ true
unfolding along
knights_alone = refl

pub kings_reach : (c : Colour) (w s t : ℕ) → s < 64 → (bit_at w s == 1) ≡ true → reaches_as [] c King s t ≡ true → (bit_at (kings w) t == 1) ≡ true
unfolding reaches_as Within
kings_reach c w s t small on reach =
    kings_grow (2 ^ s) w (only_square s w on) t
    (leap_holds (λ t. bit_at (kings (2 ^ s)) t == 1) queen_steps s t
    (all_at (λ s. list_all (λ d. holds_at (λ t. bit_at (kings (2 ^ s)) t == 1) (along s d 1)) queen_steps) 0 64 s kings_alone (omega arith) (omega (arith, small))) reach)

pub knights_reach : (c : Colour) (w s t : ℕ) → s < 64 → (bit_at w s == 1) ≡ true → reaches_as [] c Knight s t ≡ true → (bit_at (knights w) t == 1) ≡ true
unfolding reaches_as Within
knights_reach c w s t small on reach =
    knights_grow (2 ^ s) w (only_square s w on) t
    (leap_holds (λ t. bit_at (knights (2 ^ s)) t == 1) knight_steps s t
    (all_at (λ s. list_all (λ d. holds_at (λ t. bit_at (knights (2 ^ s)) t == 1) (along s d 1)) knight_steps) 0 64 s knights_alone (omega arith) (omega (arith, small))) reach)
