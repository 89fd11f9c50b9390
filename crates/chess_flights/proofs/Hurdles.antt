-- What men reach over hurdles, and what they reach later on the board.
use Rattle.chess_flights.proofs.Chess.{AreReached, Attackers, Bishop, Bool, Colour, Grasshopper, IsAttackedOver, IsNear, IsReached, IsReachedFrom, Kind, List, Man, Nightrider, None, Option, Queen, Rook, Some, Step, [], along, arith, bit_at, bit_at-lt, bit_at_or, bit_or, cases_Bool, cases_eq, diagonal_steps, eq-eqb, eqb-true, false, false≢true, find, find_first, gait_of, inl, inr, is_hopper, is_leaper, is_rider, is_some, is_vacant_at, knight_steps, leaps, list_any, man_on, men_on, not, not-true, occupied_squares, on_left, on_right, or_cases, or_left, or_right, other, queen_steps, range_with_len, reached_over, reaches_as, refl, ride-found, ride-made, rides, rules, squares_for, straight_steps, suc, sym, true, word, word_has, zero, ℕ, ◌-◌, ◌<◌, ◌==◌, ◌^◌, ◌||◌, ◌∙◌, ◌∷◌, ◌≡◌, ◌≢◌, ◌≤◌, ◌⊎◌, ByKind, IsKindReach, value_for}
use Rattle.chess_attacks.proofs.rays.OnSquares.{empty_on, occupied_on}
use Rattle.chess_attacks.specs.ties.Taking.{IsPopped}
use Rattle.chess_flights.proofs.KindByKind.{of_all}

-- for words that are joined: the first has what it reached
pub reached_left : (d : ℕ) (x : Man) (s a b : ℕ) → IsReached d x s a → IsReached d x s (bit_or a b)
reached_left d x s a b h = record { inside = λ t small r. on_left a b t (h.inside t small r) }

-- the second has
pub reached_right : (d : ℕ) (x : Man) (s a b : ℕ) → IsReached d x s b → IsReached d x s (bit_or a b)
reached_right d x s a b h = record { inside = λ t small r. on_right a b t (h.inside t small r) }

-- a bit that isn't 1
pub unset : (n : ℕ) → n < 2 → (n == 1) ≡ false → n ≡ 0
unset n lt h = grind (arith, false≢true)

-- a square of one of two words
pub on_either : (a b i : ℕ) → (bit_at (bit_or a b) i == 1) ≡ true → (bit_at a i == 1) ≡ false → (bit_at b i == 1) ≡ true
on_either a b i h off = grind (arith, eqb-true, bit_at_or, unset, bit_at-lt, eq-eqb)

-- a square of two words joined is one of the first or of the second
pub on_one : (a b i : ℕ) → (bit_at (bit_or a b) i == 1) ≡ true → ((bit_at a i == 1) ≡ true) ⊎ ((bit_at b i == 1) ≡ true)
on_one a b i h = search (rules, cases_Bool, on_either)

-- for squares reached over a bitboard of hurdles
pub reached_is : (d : ℕ) (x : Man) (s r : ℕ) → d < 2 ^ 64 → ((men : List (Option Man)) → d ≡ occupied_squares men → r ≡ word (reaches_as men x.colour x.kind s))
    → IsReached d x s r
unfolding reached_over
reached_is d x s r fits h = search (rules, occupied_on, word_has)

-- for a loop over a word: each square found is one of it
pub found_on : (w n k : ℕ) → find (λ s. bit_at w s == 1) (range_with_len n (64 - n)) ≡ Some k → (k < 64) × ((bit_at w k == 1) ≡ true)
found_on w n k found = search (rules, find_first)

-- the rest of a word in a loop that takes its squares: it has squares of the word alone
pub record IsRest (w rest : ℕ) : Type 0 where
  pub within : (s : ℕ) → s < 64 → (bit_at rest s == 1) ≡ true → (bit_at w s == 1) ≡ true

-- for its next square
pub rest_on : (w rest k left : ℕ) → IsRest w rest → IsPopped rest k left → IsRest w left
rest_on w rest k left h next = record { within = λ s small on. grind (arith, cases_eq k s, next.gone, next.others s, h.within s small) }

-- which is one of the word
pub rest_here : (w rest k left : ℕ) → IsRest w rest → IsPopped rest k left → (bit_at w k == 1) ≡ true
rest_here w rest k left h next = h.within k next.small next.here

module _ (d : ℕ) (a : Attackers) where
  -- a man that is reached is attacked
  pub attacked_by : (k : Kind) (t : ℕ) → IsReachedFrom d (record { colour = a.colour; kind = k }) (squares_for a k) t → IsAttackedOver d a t
  attacked_by k t r = search rules

-- the squares that the attackers reach
module _ (d : ℕ) (a : Attackers) (region : ℕ) where
  of_either : (j k l : Kind → Bool) (q r : ℕ) → ((i : Kind) → l i ≡ true → (j i || k i) ≡ true) → AreReached d a region j q → AreReached d a region k r
      → AreReached d a region l (bit_or q r)
  of_either j k l q r more first second = record {
    reach = λ s x i one near. elim (or_cases (j x.kind) (k x.kind) (more x.kind one)) [
      | inl e ↦ reached_left d x s q r (first.reach s x i e near)
      | inr e ↦ reached_right d x s q r (second.reach s x i e near)
    ];
  }

  -- riders and leapers together: all but hoppers
  pub all_reach : (r l : ℕ) → AreReached d a region is_rider r → AreReached d a region is_leaper l
      → AreReached d a region (λ k. not (is_hopper (gait_of k))) (bit_or r l)
  all_reach r l rides leaps = search (rules, of_either)

  -- for `gait_reach`: kind by kind
  module _ (counts : Kind → Bool) (each : ByKind ℕ)
      (reach : (k : Kind) → IsKindReach d region counts (record { colour = a.colour; kind = k }) (squares_for a k) (value_for each k)) (w : ℕ) where
    pub kinds_reach : ((k : Kind) (s : ℕ) → (bit_at (value_for each k) s == 1) ≡ true → (bit_at w s == 1) ≡ true) → AreReached d a region counts w
    kinds_reach all = record {
      reach = λ s x i one near. record {
        inside = λ t small r. all x.kind t ((of_all a (λ y q. counts y.kind ≡ true → IsNear y q region → IsReached d y q (value_for each y.kind))
            (λ k q low on same. (reach k).all same q low on) s x i one near).inside t small r);
      };
    }

    pub kinds_attack : ((s : ℕ) → (bit_at w s == 1) ≡ true → (k : Kind) × ((bit_at (value_for each k) s == 1) ≡ true)) → (t : ℕ) → t < 64
        → (bit_at w t == 1) ≡ true → IsAttackedOver d a t
    kinds_attack alone t small on = let one = alone t on in attacked_by d a one.0 t ((reach one.0).alone t small one.1)

-- where all hurdles that a man reaches over the hurdles still stand, it reaches no more than over them
module _ (d : ℕ) (men : List (Option Man)) where
  -- the hurdles that a step from s leads to still stand
  abbrev Stand : ℕ → Step → Type 0
  Stand s st = (b : ℕ) → b < 64 → (bit_at d b == 1) ≡ true → rides (men_on d) s b st ≡ true → is_some (man_on men b) ≡ true

  -- square by square what is empty on the board is so over the hurdles
  vacant_at : (st : Step) (s m : ℕ) (o : Option ℕ) → Stand s st → 1 ≤ m → m < 8 → along s st m ≡ o
      → ((j : ℕ) → 1 ≤ j → j < m → is_vacant_at (men_on d) (along s st j) ≡ true) → is_vacant_at men o ≡ true → is_vacant_at (men_on d) o ≡ true
  vacant_at st s m None stand low high at before vacant = absurd (false≢true vacant)
  vacant_at st s m (Some q) stand low high at before vacant = empty_on d q (λ on small. false≢true (sym (not-true _ vacant)
      ∙ stand q small on (ride-made (men_on d) s q st m (record { low = low; high = high; at = at; free = before }))))

  vacant_over : (st : Step) (s n : ℕ) → Stand s st → n ≤ 8 → ((j : ℕ) → 1 ≤ j → j < n → is_vacant_at men (along s st j) ≡ true) → (j : ℕ) → 1 ≤ j → j < n
      → is_vacant_at (men_on d) (along s st j) ≡ true
  vacant_over st s zero stand high free j low lt = absurd (omega (arith, lt))
  vacant_over st s (suc m) stand high free j low lt = vacant_at st s j (along s st j) stand low (omega (arith, lt, high)) refl
      (λ i lo before. vacant_over st s m stand (omega (arith, high)) (λ e l b. free e l (omega (arith, b))) i lo (omega (arith, before, lt))) (free j low lt)

  rides_over : (st : Step) (s t : ℕ) → Stand s st → rides men s t st ≡ true → rides (men_on d) s t st ≡ true
  rides_over st s t stand h =
      let w = ride-found men s t st h in
      let free = vacant_over st s w.0 stand (omega (arith, w.1.high)) w.1.free in
      ride-made (men_on d) s t st w.0 (record { low = w.1.low; high = w.1.high; at = w.1.at; free = free })

  some_over : (s t : ℕ) (ds : List Step)
      → ((b : ℕ) → b < 64 → (bit_at d b == 1) ≡ true → list_any (rides (men_on d) s b) ds ≡ true → is_some (man_on men b) ≡ true)
      → list_any (rides men s t) ds ≡ true → list_any (rides (men_on d) s t) ds ≡ true
  some_over s t [] stand h = h
  some_over s t (st ∷ ds) stand h = search (rules, or_cases, or_left, or_right, rides_over, some_over s t ds)

  -- a man that is no hopper
  pub later : (c : Colour) (k : Kind) (s t : ℕ) → is_hopper (gait_of k) ≡ false
      → (is_rider k ≡ true → (b : ℕ) → b < 64 → (bit_at d b == 1) ≡ true → reaches_as (men_on d) c k s b ≡ true → is_some (man_on men b) ≡ true)
      → reaches_as men c k s t ≡ true → reaches_as (men_on d) c k s t ≡ true
  unfolding reaches_as
  later c Queen s t plain stand h = some_over s t queen_steps (stand refl) h
  later c Rook s t plain stand h = some_over s t straight_steps (stand refl) h
  later c Bishop s t plain stand h = some_over s t diagonal_steps (stand refl) h
  later c Nightrider s t plain stand h = some_over s t knight_steps (stand refl) h
  later c Grasshopper s t plain stand h = absurd (false≢true (sym plain))
  later c _ s t plain stand h = h

  -- a man that is no hopper, where two hurdles on none of its lines may be gone
  pub later_but : (a o : ℕ) (c : Colour) (k : Kind) (s t : ℕ) → is_hopper (gait_of k) ≡ false
      → ((e : ℕ) → e < 64 → (bit_at d e == 1) ≡ true → e ≢ a → e ≢ o → is_some (man_on men e) ≡ true)
      → (is_rider k ≡ true → (bit_at d a == 1) ≡ true → reaches_as (men_on d) c k s a ≡ true → ⊥)
      → (is_rider k ≡ true → (bit_at d o == 1) ≡ true → reaches_as (men_on d) c k s o ≡ true → ⊥)
      → reaches_as men c k s t ≡ true → reaches_as (men_on d) c k s t ≡ true
  later_but a o c k s t plain stays one other h = search (rules, cases_eq, later)
