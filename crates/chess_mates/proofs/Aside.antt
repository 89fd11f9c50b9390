-- Rides to a square that is on no line with another: a man that leaves the other opens none of them.
use Rattle.chess_mates.proofs.Chess.{Bishop, Colour, Grasshopper, Kind, List, Man, Nightrider, None, Option, Queen, Rook, Some, Step, [], along, arith, bit_at, cases_eq, diagonal_steps, false, false≢true, gait_of, inl, inr, is_ahead, is_hopper, is_on_some, is_some, is_vacant_at, list_any, list_any-append, man_on, men_on, not-true, or_cases, or_left, or_parts, or_right, queen_steps, reaches_as, refl, ride-found, ride-made, rides, rules, same_kind, straight_steps, sym, true, ℕ, ◌+◌, ◌-◌, ◌<◌, ◌==◌, ◌∙◌, ◌∷◌, ◌≡◌, ◌≢◌, ◌≤◌}
use Rattle.chess_attacks.proofs.rays.Ahead.{onward}
use Rattle.chess_attacks.proofs.rays.OnSquares.{empty_on}
use Rattle.chess_attacks.proofs.rays.Stopping.{ahead_at}

-- all hurdles but the man on a still stand, and no line leads from a to t
module _ (d : ℕ) (men : List (Option Man)) (a t : ℕ)
    (stays : (e : ℕ) → e < 64 → (bit_at d e == 1) ≡ true → e ≢ a → is_some (man_on men e) ≡ true) where
  -- a square that is crossed on the way to t isn't a
  vacant_beside : (st : Step) (s n j : ℕ) (o : Option ℕ) → is_ahead a st t ≡ false → along s st n ≡ Some t → 1 ≤ j → j < n → n < 8 → along s st j ≡ o
      → is_vacant_at men o ≡ true → is_vacant_at (men_on d) o ≡ true
  vacant_beside st s n j None off end low lt high at vacant = absurd (false≢true vacant)
  vacant_beside st s n j (Some q) off end low lt high at vacant = elim (cases_eq q a) [
    | inl same ↦
        let sum : j + (n - j) ≡ n = omega (arith, lt) in
        let on : along q st (n - j) ≡ Some t = onward s q st j (n - j) at ∙ rw sum end in
        absurd (false≢true (sym off ∙ ahead_at a st t (n - j) (omega (arith, lt)) (omega (arith, high)) (rw same at on)))
    | inr ne ↦ empty_on d q (λ on small. false≢true (sym (not-true _ vacant) ∙ stays q small on ne))
  ]

  ride_beside : (s : ℕ) (st : Step) → is_ahead a st t ≡ false → rides men s t st ≡ true → rides (men_on d) s t st ≡ true
  ride_beside s st off h =
      let w = ride-found men s t st h in
      ride-made (men_on d) s t st w.0 (record {
        low = w.1.low;
        high = w.1.high;
        at = w.1.at;
        free = λ j low lt. vacant_beside st s w.0 j (along s st j) off w.1.at low lt w.1.high refl (w.1.free j low lt);
      })

  some_beside : (s : ℕ) (ds : List Step) → is_on_some ds a t ≡ false → list_any (rides men s t) ds ≡ true → list_any (rides (men_on d) s t) ds ≡ true
  unfolding is_on_some
  some_beside s [] off h = h
  some_beside s (st ∷ ds) off h = search (rules, or_cases, or_left, or_right, or_parts, ride_beside, some_beside s ds)

  -- a queen's lines are a rook's and a bishop's
  queen_off : is_on_some straight_steps a t ≡ false → is_on_some diagonal_steps a t ≡ false → is_on_some queen_steps a t ≡ false
  unfolding is_on_some
  queen_off straight diagonal = grind (arith, list_any-append, straight, diagonal)

  -- a man that is no hopper and no nightrider reaches t over the hurdles too
  pub beside : (c : Colour) (k : Kind) (s : ℕ) → is_hopper (gait_of k) ≡ false → same_kind k Nightrider ≡ false → is_on_some straight_steps a t ≡ false
      → is_on_some diagonal_steps a t ≡ false → reaches_as men c k s t ≡ true → reaches_as (men_on d) c k s t ≡ true
  unfolding reaches_as
  beside c Queen s plain rider straight diagonal h = some_beside s queen_steps (queen_off straight diagonal) h
  beside c Rook s plain rider straight diagonal h = some_beside s straight_steps straight h
  beside c Bishop s plain rider straight diagonal h = some_beside s diagonal_steps diagonal h
  beside c Nightrider s plain rider straight diagonal h = absurd (false≢true (sym rider))
  beside c Grasshopper s plain rider straight diagonal h = absurd (false≢true (sym plain))
  beside c _ s plain rider straight diagonal h = h
