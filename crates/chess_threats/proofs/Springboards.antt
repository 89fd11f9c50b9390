-- Springboards: the squares over which hoppers reach a square.
use Rattle.chess_threats.proofs.Chess.{AreFree, AreSpringboards, Attackers, Bishop, Bool, Direction, East, Grasshopper, Hop, IsAttacker, IsNear, IsReached, IsHopped, IsUnhopped, Kind, King, List, Man, None, North, NorthEast, NorthWest, Option, Rook, KingAttack, Some, South, SouthEast, SouthWest, Step, West, White, [], along, along-is, any_kept, ap, arith, bit_and, bit_at, bit_not, bit_or, diagonal-back, diagonal_steps, eq-eqb, eqb-true, false, false_by, false≢true, gait_of, hop-found, hops, inl, inr, is_hopper, is_occupied, is_on_some, is_some, is_square, is_vacant_at, king-back, leaps, list_any, list_any-append, man_on, map, men_on, no_reach_there, not_yet, off_left, off_right, on_left, on_right, onward, or_cases, or_left, or_right, ordered, queen_steps, reached_over, reaches_as, refl, ride-made, rides, rules, step_of, straight-back, straight_steps, sym, true, w64, word, word_has, ℕ, ◌-◌, ◌<◌, ◌==◌, ◌^◌, ◌∙◌, ◌∷◌, ◌≡◌, ◌≢◌}
use Rattle.chess_attacks.proofs.rays.OnSquares.{empty_on, hop_openly}
use Rattle.chess_flights.proofs.Bitboards.{on_both, denied_on, none_at, none_on}
use Rattle.chess_attacks.proofs.rays.OpenBoard.{rides_on}

-- a hopper is a grasshopper
pub hopper_is : (k : Kind) → is_hopper (gait_of k) ≡ true → k ≡ Grasshopper
hopper_is k hop = grind (arith, false≢true)

-- an attacker that is a hopper is on a square of the grasshoppers' bitboard
pub grasshopper_on : (a : Attackers) (q : ℕ) (z : Man) → IsAttacker a z q → is_hopper (gait_of z.kind) ≡ true → (bit_at a.squares.grasshoppers q == 1) ≡ true
grasshopper_on a q z i hop = rw (hopper_is z.kind hop) at i.on

-- for attackers without a grasshopper: nothing is sprung
pub none_sprung : (a : Attackers) (t : ℕ) → a.squares.grasshoppers ≡ 0 → AreSpringboards a t 0
none_sprung a t none = record { sprung = λ men q z i hop reach. absurd (none_at a.squares.grasshoppers q none (grasshopper_on a q z i hop)) }

-- a direction that meets a test, and with it a list that has it
pub some_direction : (p : Step → Bool) (xs : List Direction) → list_any p (map step_of xs) ≡ true
    → (x : Direction) × ((p (step_of x) ≡ true) × ((f : Step → Bool) → f (step_of x) ≡ true → list_any f (map step_of xs) ≡ true))
some_direction p [] h = absurd (false≢true h)
some_direction p (x ∷ xs) h = elim (or_cases (p (step_of x)) _ h) [
  | inl y ↦ (x, (y, λ f e. or_left _ _ e))
  | inr r ↦ let w = some_direction p xs r in (w.0, (w.1.0, λ f e. or_right _ _ (w.1.1 f e)))
]

-- where a hop from q to t along one of these steps has its hurdle: a rider reaches it from q, t empty or
-- not, and t from it
record IsBoard (men : List (Option Man)) (q t o : ℕ) (ds : List Step) : Type 0 where
  square : ℕ
  small : square < 64
  stands : is_some (man_on men square) ≡ true
  ride : list_any (rides (men_on o) q square) ds ≡ true
  step : list_any (leaps square t) ds ≡ true
  last : list_any (rides (men_on 0) square t) ds ≡ true

module _ (men : List (Option Man)) (q t o : ℕ) (inside : t < 64) (only : o ≡ word (λ s. is_square (Some t) s)) where
  vacant_off : (b : Option ℕ) → b ≢ Some t → is_vacant_at men b ≡ true → is_vacant_at (men_on o) b ≡ true
  vacant_off None ne h = absurd (false≢true h)
  vacant_off (Some b) ne h = search (rules, empty_on o b, eqb-true, word_has)

  hop_at : (x : Direction) (k : ℕ) (ds : List Step) → Hop men q t (step_of x) k → ((f : Step → Bool) → f (step_of x) ≡ true → list_any f ds ≡ true)
      → (b : Option ℕ) → along q (step_of x) (k - 1) ≡ b → is_occupied men b ≡ true → IsBoard men q t o ds
  unfolding leaps
  hop_at x k ds hop has None at some = absurd (false≢true some)
  hop_at x k ds hop has (Some b) at some =
      let d = step_of x in
      let there : along b d 1 ≡ Some t = onward q b d (k - 1) 1 at ∙ ap (along q d) (omega (arith, hop.low)) ∙ hop.at in
      record {
        square = b;
        small = (along-is q d (k - 1) b (rw at (eq-eqb b b refl))).small;
        stands = some;
        ride = has (rides (men_on o) q b) (ride-made (men_on o) q b d (k - 1) (record {
          low = omega (arith, hop.low);
          high = omega (arith, hop.high);
          at = at;
          free = λ j lo hi. vacant_off (along q d j) (not_yet q t d k j (ordered x) hop.at (omega (arith, hi))) (hop.free j lo hi);
        }));
        step = has (leaps b t) (rw there (eq-eqb t t refl));
        last = has (rides (men_on 0) b t) (ride-made (men_on 0) b t d 1
            (record { low = omega arith; high = omega arith; at = there; free = λ j lo hi. absurd (omega (arith, lo, hi)) }));
      }

  hop_board : (xs : List Direction) → list_any (hops men q t) (map step_of xs) ≡ true → IsBoard men q t o (map step_of xs)
  hop_board xs h = search (rules, hop-found, hop_at, some_direction)

-- for `springboards_of`
module _ (a : Attackers) (t o l d n r b : ℕ) (inside : t < 64) (only : o ≡ word (λ s. is_square (Some t) s)) (lines : l ≡ word (is_on_some straight_steps t))
    (slants : d ≡ word (is_on_some diagonal_steps t)) (near : n ≡ word (λ q. list_any (leaps t q) queen_steps))
    (rooks : (s : ℕ) → s < 64 → (bit_at (bit_and a.squares.grasshoppers l) s == 1) ≡ true → IsNear (record { colour = a.colour; kind = Rook }) s n
    → IsReached o (record { colour = a.colour; kind = Rook }) s r)
    (bishops : (s : ℕ) → s < 64 → (bit_at (bit_and a.squares.grasshoppers d) s == 1) ≡ true → IsNear (record { colour = a.colour; kind = Bishop }) s n
    → IsReached o (record { colour = a.colour; kind = Bishop }) s b) where
  abbrev Boards : ℕ
  Boards = bit_and (bit_or (bit_and r l) (bit_and b d)) n

  -- a hop along straight lines, or along diagonals: w are the squares of these lines, and u those that the
  -- hoppers reach there
  hopped : (men : List (Option Man)) (q : ℕ) (k : Kind) (xs : List Direction) (w u : ℕ) → q < 64 → (bit_at a.squares.grasshoppers q == 1) ≡ true
      → w ≡ word (is_on_some (map step_of xs) t)
      → ((s : ℕ) → s < 64 → list_any (rides (men_on 0) s t) (map step_of xs) ≡ true → list_any (rides (men_on 0) t s) (map step_of xs) ≡ true)
      → ((f : ℕ) → list_any (rides (men_on o) q f) (map step_of xs) ≡ true → reached_over o (record { colour = a.colour; kind = k }) q f ≡ true)
      → ((s : ℕ) → s < 64 → (bit_at (bit_and a.squares.grasshoppers w) s == 1) ≡ true → IsNear (record { colour = a.colour; kind = k }) s n
      → IsReached o (record { colour = a.colour; kind = k }) s u)
      → ((f : ℕ) → list_any (leaps f t) (map step_of xs) ≡ true → list_any (leaps f t) queen_steps ≡ true)
      → ((f : ℕ) → (bit_at (bit_and u w) f == 1) ≡ true → (bit_at (bit_or (bit_and r l) (bit_and b d)) f == 1) ≡ true)
      → list_any (hops men q t) (map step_of xs) ≡ true → IsHopped men t Boards
  unfolding reaches_as reached_over
  hopped men q k xs w u low on along back over reach one join h =
      let i = hop_board men q t o inside only xs h in
      let f = i.square in
      let step = one f i.step in
      let next = word_has (λ q. list_any (leaps t q) queen_steps) n f near i.small ∙ sym (king-back f t i.small inside) ∙ step in
      let lined : (s : ℕ) → s < 64 → list_any (rides (men_on 0) s t) (map step_of xs) ≡ true → (bit_at w s == 1) ≡ true = λ s small ride.
      word_has (is_on_some (map step_of xs) t) w s along small ∙ rides_on (men_on 0) t s (map step_of xs) (back s small ride) in
      let from = on_both a.squares.grasshoppers w q on (lined q low (any_kept (hops men q t) (rides (men_on 0) q t) (map step_of xs) (hop_openly men q t) h)) in
      let reached = reach q low from (record { square = f; small = i.small; on = next; men = men_on o; reaches = over f i.ride }) in
      record {
        square = f;
        small = i.small;
        on = on_both _ n f (join f (on_both u w f (reached.inside f i.small (over f i.ride)) (lined f i.small i.last))) next;
        apart = λ e. false≢true (sym (no_reach_there men White King t inside) ∙ (rw e at step));
        stands = i.stands;
      }

  -- the word has the springboards of t: each hop there is straight or diagonal
  pub springboards_are : AreSpringboards a t Boards
  unfolding reaches_as reached_over
  springboards_are = record {
    sprung = λ men q z i hop reach.
        let on = grasshopper_on a q z i hop in
        let h : list_any (hops men q t) queen_steps ≡ true = rw (hopper_is z.kind hop) at reach in
        elim (or_cases _ _ (sym (list_any-append (hops men q t) straight_steps diagonal_steps) ∙ h)) [
          | inl y ↦ hopped men q Rook (East ∷ West ∷ North ∷ South ∷ []) l r i.small on lines
              (λ s small ride. sym (straight-back (men_on 0) s t small inside) ∙ ride) (λ f e. e) rooks
              (λ f e. list_any-append (leaps f t) straight_steps diagonal_steps ∙ or_left _ _ e) (λ f e. on_left _ _ f e) y
          | inr y ↦ hopped men q Bishop (NorthEast ∷ SouthEast ∷ NorthWest ∷ SouthWest ∷ []) d b i.small on slants
              (λ s small ride. sym (diagonal-back (men_on 0) s t small inside) ∙ ride) (λ f e. e) bishops
              (λ f e. list_any-append (leaps f t) straight_steps diagonal_steps ∙ or_right _ _ e) (λ f e. on_right _ _ f e) y
        ];
  }

-- for `are_free`
pub free_are : (v : KingAttack) (k w o : ℕ) → o ≡ word (λ s. is_square (Some k) s) → o < 2 ^ 64
    → (bit_and (bit_and w (bit_or (bit_or v.own v.enemies) v.closed)) (bit_not w64 o) == 0) ≡ true → AreFree v k w
free_are v k w o only fits none = search (rules, off_left, off_right, free) where
  free : (h : ℕ) → (bit_at w h == 1) ≡ true → h < 64 → h ≢ k → (bit_at (bit_or (bit_or v.own v.enemies) v.closed) h == 1) ≡ false
  free h on small ne = false_by _ (λ stands. none_on _ h none (denied_on _ o h fits small (on_both w _ h on stands)
      (false_by _ (λ at. ne (sym (eqb-true k h (sym (word_has (λ s. is_square (Some k) s) o h only small) ∙ at)))))))

-- for words of springboards that are joined
pub unsprung_left : (v : KingAttack) (k t a b : ℕ) → IsUnhopped v k t a → IsUnhopped v k t (bit_or a b)
unsprung_left v k t a b h = record { springboards = h.springboards; are = h.are; free = h.free; within = λ s on. on_left a b s (h.within s on) }

-- for the second of two words of springboards that are joined
pub unsprung_right : (v : KingAttack) (k t a b : ℕ) → IsUnhopped v k t b → IsUnhopped v k t (bit_or a b)
unsprung_right v k t a b h = record { springboards = h.springboards; are = h.are; free = h.free; within = λ s on. on_right a b s (h.within s on) }

-- for a square that has free springboards
pub landing_is : (v : KingAttack) (k t w o f : ℕ) → o ≡ word (λ s. is_square (Some t) s) → AreSpringboards v.men t w → AreFree v k w → f < 64
    → (bit_at o f == 1) ≡ true → IsUnhopped v k f w
landing_is v k t w o f only are free small on = search (rules, eqb-true, word_has)

-- for attackers without a grasshopper
pub landing_anywhere : (v : KingAttack) (k t : ℕ) → v.men.squares.grasshoppers ≡ 0 → IsUnhopped v k t 0
landing_anywhere v k t none = search (rules, none_at, none_sprung)

-- for `may_spring`, where no other man is a hopper
pub no_other : (a : Attackers) (s o : ℕ) → o ≡ word (λ q. is_square (Some s) q) → o < 2 ^ 64 → bit_and a.squares.grasshoppers (bit_not w64 o) ≡ 0
    → (q : ℕ) (z : Man) → IsAttacker a z q → s ≢ q → is_hopper (gait_of z.kind) ≡ true → ⊥
no_other a s o only fits none q z i ne hop = none_at _ q none (denied_on a.squares.grasshoppers o q fits i.small (grasshopper_on a q z i hop)
    (search (rules, false_by, eqb-true, word_has)))
