-- The squares from which a man comes to a square; for pawns by the difference of square numbers.
use Rattle.chess_flights.proofs.Chess.{AreApproaches, AreCapturers, Black, Bool, Colour, None, Pawn, Position, White, agree_below, agree_below_at, along, and_parts, ap, arith, bit_at, bit_at_cat_high, bit_at_cat_low, bit_or, eqb-true, false, false≢true, forward, if◌then◌else◌, implied, is_advance, is_square, leaps, list_any, man_on, may_arrive, not, not-true, on_left, on_right, or_cases, or_left, or_right, other, pawn_capture_steps, pawn_steps_to, queen_steps, rank_of, reaches_as, refl, rules, same_colour, second_rank, true, ℕ, List, Option, Some, Step, [], list_all, false_by, square_is, sym, ◌%◌, ◌&&◌, ◌*◌, ◌+◌, ◌-◌, ◌/◌, ◌<◌, ◌==◌, ◌^◌, ◌||◌, ◌≡◌, ◌≤◌, ◌∷◌, ◌∙◌, AreApproached, Grasshopper, Man, Queen, men_on, reaches_back, same_kind, same_kind-true}
use Rattle.std.proofs.Math.Nat.{div-add-mod}
use Rattle.std.proofs.lemmas.Nat.{pow_pos, shr-shr}
use Rattle.chess_attacks.specs.ties.Lines.{AreReached}
use Rattle.chess_attacks.proofs.rays.OnSquares.{hops_openly}
use Rattle.chess_flights.proofs.Standing.{no_hopper}

-- a man that reaches a square is reached from there by a man of the other colour
pub come_back : (x : Man) (t w : ℕ) → t < 64 → same_kind x.kind Grasshopper ≡ false → AreReached (record { colour = other x.colour; kind = x.kind }) t w
    → AreApproached x t w
come_back x t w small other are = search (rules, reaches_back, no_hopper)

-- a grasshopper comes along a queen's lines
pub hop_back : (x : Man) (t w : ℕ) → t < 64 → same_kind x.kind Grasshopper ≡ true → AreReached (record { colour = other x.colour; kind = Queen }) t w
    → AreApproached x t w
hop_back x t w small kind are = search (rules, are.inside (men_on 0), reaches_back (men_on 0) x.colour Queen, hops_openly, same_kind-true)

-- a word moved down or up by k squares
pub bit_down : (w k s : ℕ) → bit_at (w / 2 ^ k) s ≡ bit_at w (k + s)
bit_down w k s = ap (λ x. x % 2) (shr-shr w k s)

-- the squares of a word moved up by k are higher by k
pub bit_up : (w k s : ℕ) → k ≤ s → s < 64 → bit_at (w * 2 ^ k % 2 ^ 64) s ≡ bit_at w (s - k)
bit_up w k s from small =
    let all = w * 2 ^ k in
    grind (arith, div-add-mod all (2 ^ 64), bit_at_cat_low (all / 2 ^ 64) 64 (all % 2 ^ 64) s small, bit_at_cat_high w k 0 s (pow_pos k) from, pow_pos k)

on_either : (u v : Bool) (a b i : ℕ) → (u ≡ true → (bit_at a i == 1) ≡ true) → (v ≡ true → (bit_at b i == 1) ≡ true) → (u || v) ≡ true
    → (bit_at (bit_or a b) i == 1) ≡ true
on_either u v a b i f g h = grind (arith, or_cases u v h, on_left, on_right)

-- t is k squares after s for a pawn of this colour
abbrev is_after : Colour → ℕ → ℕ → ℕ → Bool
is_after White k s t = t == k + s
is_after Black k s t = s == k + t

-- the bitboard of the squares that are k squares before a square of w
abbrev before : Colour → ℕ → ℕ → ℕ
before White w k = w / 2 ^ k
before Black w k = w * 2 ^ k % 2 ^ 64

before_has : (c : Colour) (w s t k : ℕ) → s < 64 → (bit_at w t == 1) ≡ true → is_after c k s t ≡ true → (bit_at (before c w k) s == 1) ≡ true
before_has c w s t k small on at = grind (arith, bit_down, bit_up, eqb-true)

-- what is computed of each square to which a step leads
abbrev holds_at : (ℕ → Bool) → Option ℕ → Bool
holds_at f None = true
holds_at f (Some t) = f t

at_holds : (f : ℕ → Bool) (o : Option ℕ) (t : ℕ) → holds_at f o ≡ true → is_square o t ≡ true → f t ≡ true
at_holds f o t all at = rw (square_is o t at) at all

leap_holds : (f : ℕ → Bool) (ds : List Step) (s t : ℕ) → list_all (λ d. holds_at f (along s d 1)) ds ≡ true → list_any (leaps s t) ds ≡ true → f t ≡ true
unfolding leaps
leap_holds f [] s t all leap = absurd (false≢true leap)
leap_holds f (d ∷ ds) s t all leap = search (rules, or_cases, and_parts, at_holds, leap_holds f ds s t)

-- two ranks away
abbrev is_far : ℕ → ℕ → Bool
is_far s t = rank_of s + 2 == rank_of t || rank_of t + 2 == rank_of s

-- for double steps: no step goes so far
pub no_far_step : (s t : ℕ) → s < 64 → t < 64 → is_far s t ≡ true → list_any (leaps s t) queen_steps ≡ false
unfolding along
no_far_step s t p q far =
    let all = agree_below_at (λ s. list_all (λ d. holds_at (λ t. not (is_far s t)) (along s d 1)) queen_steps) (λ s. true) 64 s refl p in
    false_by _ (λ near. false≢true (sym (not-true _ (leap_holds (λ t. not (is_far s t)) queen_steps s t all near)) ∙ far))

-- how a pawn goes: it captures, or advances one square, or two from its second rank
abbrev pawn_steps : Colour → ℕ → ℕ → Bool
pawn_steps c s t = is_square (along s (forward c) 1) t || (rank_of s == second_rank c && is_square (along s (forward c) 2) t)

abbrev pawn_way : Colour → ℕ → ℕ → Bool
pawn_way c s t = list_any (leaps s t) (pawn_capture_steps c) || pawn_steps c s t

-- what is computed of each square to which a pawn goes so, for both colours
abbrev holds_ahead : Colour → (ℕ → Bool) → ℕ → Bool
holds_ahead c f s = list_all (λ d. holds_at f (along s d 1)) (pawn_capture_steps c)
    && (holds_at f (along s (forward c) 1) && (not (rank_of s == second_rank c) || holds_at f (along s (forward c) 2)))

way_holds : (c : Colour) (f : ℕ → Bool) (s t : ℕ) → holds_ahead c f s ≡ true → pawn_way c s t ≡ true → f t ≡ true
way_holds c f s t all way = search (rules, and_parts, or_cases, leap_holds, at_holds, implied)

every : (f : Colour → ℕ → ℕ → Bool) → agree_below (λ s. holds_ahead White (f White s) s) (λ s. true) 64 ≡ true
    → agree_below (λ s. holds_ahead Black (f Black s) s) (λ s. true) 64 ≡ true → (c : Colour) (s t : ℕ) → s < 64 → pawn_way c s t ≡ true → f c s t ≡ true
every f white black White s t p = way_holds White (f White s) s t (agree_below_at (λ s. holds_ahead White (f White s) s) (λ s. true) 64 s white p)
every f white black Black s t p = way_holds Black (f Black s) s t (agree_below_at (λ s. holds_ahead Black (f Black s) s) (λ s. true) 64 s black p)

-- a pawn that may go goes so
pub takes_or_steps : (p : Position) (c : Colour) (s t : ℕ) → may_arrive p (record { colour = c; kind = Pawn }) s t ≡ true → pawn_way c s t ≡ true
unfolding may_arrive reaches_as
takes_or_steps p c s t goes = search (rules, and_parts, or_cases, or_left, or_right)

-- the square that a double step passes, and from which a pawn of the other colour advances to the pawn's
-- square
abbrev is_over : Colour → ℕ → ℕ → Bool
is_over c h t = rank_of h == (if same_colour c White then 3 else 6) && is_after c 8 h t

over_is : (c : Colour) (s t : ℕ) → s < 64 → pawn_way c s t ≡ true → is_far s t ≡ true → is_over c ((s + t) / 2) t ≡ true
unfolding along
over_is c s t p way = implied _ _ (every (λ c s t. not (is_far s t) || is_over c ((s + t) / 2) t) refl refl c s t p way)

steps_ahead : (c : Colour) (s h : ℕ) → s < 64 → pawn_steps c s h ≡ true → (rank_of h == (if same_colour c White then 6 else 3)) ≡ true
    → is_after c 8 s h ≡ true
unfolding along
steps_ahead c s h p steps rank =
    let ahead = λ (c : Colour) (s h : ℕ). not (rank_of h == (if same_colour c White then 6 else 3)) || (not (pawn_steps c s h) || is_after c 8 s h) in
    implied _ _ (implied _ _ (every ahead refl refl c s h p (or_right (list_any (leaps s h) (pawn_capture_steps c)) _ steps)) rank) steps

-- a pawn goes two ranks only by stepping
module _ (p : Position) (c : Colour) (s t : ℕ) (low : s < 64) (high : t < 64) (goes : may_arrive p (record { colour = c; kind = Pawn }) s t ≡ true)
    (far : is_far s t ≡ true) where
  -- to a square where nobody stands
  pub far_is_vacant : man_on p.men t ≡ None
  unfolding may_arrive reaches_as
  far_is_vacant =
      let pawn = pawn_steps_to p (record { colour = c; kind = Pawn }) (record { from = s; to = t; promo = None }) in
      grind (arith, no_far_step s t low high far, pawn, goes, false≢true)

  -- a pawn that advances to the square between is where the pawn arrives
  pub steps_from_there : (u : ℕ) → u < 64 → (s + t) / 2 < 64 → pawn_steps (other c) u ((s + t) / 2) ≡ true → u ≡ t
  steps_from_there u inside mid steps =
      grind (arith, over_is c s t low (takes_or_steps p c s t goes) far, steps_ahead (other c) u ((s + t) / 2), and_parts, eqb-true)

  -- which is the next one ahead
  pub goes_over_next : (is_advance c s ((s + t) / 2) ≡ true) × (list_any (leaps s ((s + t) / 2)) queen_steps ≡ true)
  unfolding along leaps
  goes_over_next =
      let over = λ (c : Colour) (s h : ℕ). is_advance c s h && list_any (leaps s h) queen_steps in
      and_parts _ _ (implied _ _ (every (λ c s t. not (is_far s t) || over c s ((s + t) / 2)) refl refl c s t low (takes_or_steps p c s t goes)) far)

-- for `pawns_before`
pub pawns_come_from : (c d : Colour) (w v : ℕ) → d ≡ c → v ≡ bit_or (bit_or (bit_or (before c w 7) (before c w 8)) (before c w 9)) (before c w 16)
    → AreApproaches (record { colour = d; kind = Pawn }) w v
unfolding along leaps
pawns_come_from c d w v same is = rw (same, is) (record {
  approach = λ p s t small inside goes on.
      let has = λ (k : ℕ). before_has c w s t k small on in
      let by = λ (c : Colour) (s t : ℕ). ((is_after c 7 s t || is_after c 8 s t) || is_after c 9 s t) || is_after c 16 s t in
      on_either _ _ _ _ s (on_either _ _ _ _ s (on_either _ _ _ _ s (has 7) (has 8)) (has 9)) (has 16)
      (every by refl refl c s t small (takes_or_steps p c s t goes));
})

-- for `capturers_before`
pub pawns_capture_from : (c d : Colour) (w v : ℕ) → d ≡ c → v ≡ bit_or (before c w 7) (before c w 9) → AreCapturers d w v
unfolding along leaps
pawns_capture_from c d w v same is = rw (same, is) (record {
  capture = λ s t small lt takes on. on_either _ _ _ _ s (before_has c w s t 7 small on) (before_has c w s t 9 small on)
      (implied _ _ (every (λ c s t. not (list_any (leaps s t) (pawn_capture_steps c)) || (is_after c 7 s t || is_after c 9 s t)) refl refl c s t small
      (or_left _ _ takes)) takes);
})
