-- The men after a man's move and a step of the enemy king, and what they attack.
use Rattle.chess_flights.proofs.Chess.{DescribesMen, Colour, Kind, List, Man, None, Option, Some, StandAlike, and_left, and_right, arith, cases_Bool, cases_eq, differs, eq-eqb, eqb-true, false, false_from_ne_true, gone_to, inl, inr, is_man, is_occupied_after, is_of_colour, is_some, is_square, kept_now, left_now, length, length-set, man_on, man_on-with_other, man_on-without_other, man_on-without_same, no_man, not, occupied_now, occupied_squares, occupied_words, or_from, or_left, rules, same_colour, occupancy_lifted, occupancy_with, squares_both, squares_either, squares_not, squares_of, there_now, true, without_man, word, ℕ, ◌&&◌, ◌<◌, ◌==◌, ◌||◌, ◌≡◌, ◌≢◌}
use Rattle.chess_rules.proofs.Plays.{length-without_at}

-- the men once z has come from a to b and the man on o is gone, and then x from k to t and the man on u is gone
abbrev pub stepped : List (Option Man) → ℕ → Option ℕ → ℕ → Man → ℕ → Option ℕ → ℕ → Man → List (Option Man)
stepped men a o b z k u t x = gone_to (gone_to men a o b z) k u t x

-- what must hold of the squares and of the men on them; attacks by colour c count
pub record IsStep (men : List (Option Man)) (a : ℕ) (o : Option ℕ) (b k : ℕ) (u : Option ℕ) (t : ℕ) (x : Man) (c : Colour) : Type 0 where
  pub arrival : b < length men
  pub flight : t < length men
  pub taken : (s : ℕ) → is_square u s ≡ true → s ≡ t
  pub king : same_colour x.colour c ≡ false
  pub lifted : is_of_colour (man_on men k) c ≡ false
  pub entered : is_of_colour (man_on men b) c ≡ false
  pub apart : b ≢ k

taken_nowhere : (u : Option ℕ) (t q : ℕ) → ((s : ℕ) → is_square u s ≡ true → s ≡ t) → q ≢ t → is_square u q ≡ false
taken_nowhere u t q h ne = false_from_ne_true _ (λ y. ne (h q y))

module _ (men : List (Option Man)) (a : ℕ) (o : Option ℕ) (b : ℕ) (z : Man) (k : ℕ) where
  -- with the king lifted, no other man is on the flight than before
  lifted_one : (q : ℕ) → b < length men
      → (is_occupied_after men a o b q && not (k == q)) ≡ is_some (man_on (without_man (gone_to men a o b z) k) q)
  lifted_one q arrival = grind (arith, and_right, cases_eq, differs, eq-eqb, man_on-without_other, man_on-without_same, occupied_now)

  -- for the word of occupied squares then
  pub occupied_lifted : b < length men → (occupancy_lifted men a o b k).occupied ≡ occupied_squares (without_man (gone_to men a o b z) k)
  occupied_lifted arrival = search (rules, lifted_one, occupied_words, squares_both, squares_not)

  module _ (u : Option ℕ) (t : ℕ) (x : Man) where
    -- the man on a square
    pub on_flight : (q : ℕ) → t < length men → q ≡ t → man_on (stepped men a o b z k u t x) q ≡ Some x
    on_flight q small e = search rules

    -- nobody stands where the king has left
    pub on_left : (q : ℕ) → q ≢ t → (k == q) ≡ true → man_on (stepped men a o b z k u t x) q ≡ None
    on_left q ne y = search (rules, left_now, or_left)

    -- elsewhere the men are those from before the king's step
    pub on_others : (q : ℕ) → ((s : ℕ) → is_square u s ≡ true → s ≡ t) → q ≢ t → (k == q) ≡ false
        → man_on (stepped men a o b z k u t x) q ≡ man_on (gone_to men a o b z) q
    on_others q h ne off = search (rules, kept_now, or_from, taken_nowhere)

    -- the man on a square after the arrival
    pub stands_arrived : (q : ℕ) → b < length men → ((s : ℕ) → is_square u s ≡ true → s ≡ t) → q ≡ b → q ≢ t → b ≢ k
        → man_on (stepped men a o b z k u t x) q ≡ Some z
    stands_arrived q arrival h e ne off = search (rules, on_others, there_now)

    -- the squares occupied once the king has stepped
    pub stands : (q : ℕ) → b < length men → t < length men → ((s : ℕ) → is_square u s ≡ true → s ≡ t)
        → ((is_occupied_after men a o b q && not (k == q)) || t == q) ≡ is_some (man_on (stepped men a o b z k u t x) q)
    stands q arrival flight h = grind (arith, gone_to, length-set, length-without_at, occupied_now)

    -- for the word of occupied squares after the step
    pub occupied_stepped : b < length men → t < length men → ((s : ℕ) → is_square u s ≡ true → s ≡ t)
        → (occupancy_with (occupancy_lifted men a o b k) t).occupied ≡ occupied_squares (stepped men a o b z k u t x)
    occupied_stepped arrival flight h = search (rules, squares_both, squares_not, squares_either, stands)

    -- the board with the king lifted and the one after the step differ on the flight alone
    pub lifted_alike : b < length men → t < length men → ((s : ℕ) → is_square u s ≡ true → s ≡ t)
        → StandAlike (stepped men a o b z k u t x) (without_man (gone_to men a o b z) k) t
    lifted_alike arrival flight h = record { alike = λ q ne. search (rules, is_occupied_after, lifted_one q, stands q) }

module _ (men : List (Option Man)) (a : ℕ) (o : Option ℕ) (b : ℕ) (z y : Man) (k : ℕ) (u : Option ℕ) (t : ℕ) (x : Man) where
  -- whichever man has arrived
  pub arrival_alike : b < length men → t < length men → ((s : ℕ) → is_square u s ≡ true → s ≡ t)
      → StandAlike (stepped men a o b z k u t x) (stepped men a o b y k u t x) t
  arrival_alike arrival flight h = search (rules, stands)

  -- whichever man has arrived, the men elsewhere are equal
  pub same_elsewhere : (q : ℕ) → t < length men → ((s : ℕ) → is_square u s ≡ true → s ≡ t) → (q ≡ b → q ≡ t)
      → man_on (stepped men a o b z k u t x) q ≡ man_on (stepped men a o b y k u t x) q
  same_elsewhere q flight h off = search (rules, man_on-with_other, on_flight, on_left, on_others)

-- the words of men with the king lifted
pub lifted_words : (men : List (Option Man)) (a : ℕ) (o : Option ℕ) (b k : ℕ)
    → (occupancy_lifted men a o b k).occupied ≡ word (λ s. is_occupied_after men a o b s && not (k == s))
lifted_words men a o b k = search (rules, occupied_words, squares_both, squares_not)

module _ (men : List (Option Man)) (a : ℕ) (o : Option ℕ) (b k : ℕ) (u : Option ℕ) (t : ℕ) (x : Man) (c : Colour) (i : IsStep men a o b k u t x c) where
  -- the men of the attack: the one that moved apart
  attacker_stands : (j : Kind) (q : ℕ) → (is_man (man_on men q) c j && ((not (is_square o q) && not (a == q)) && not (t == q)))
      ≡ is_man (man_on (stepped men a o b x k u t x) q) c j
  attacker_stands j q = elim (cases_eq q t) [
    | inl e ↦ rw (on_flight men a o b x k u t x q i.flight e) (grind (arith, and_right, eq-eqb, e, and_left, i.king))
    | inr ne ↦ elim (cases_Bool (k == q)) [
      | inl y ↦ grind (arith, eqb-true, no_man, and_left, on_left)
      | inr n ↦ rw (on_others men a o b x k u t x q i.taken ne n) (elim (cases_eq q b) [
        | inl e ↦ grind (arith, no_man, and_left, there_now)
        | inr off ↦ grind (arith, cases_Bool (a == q || is_square o q), left_now men a o b x q off, kept_now men a o b x q off, differs, ne)
      ])
    ]
  ]

  -- the bitboards describe the men after a man of the other side has come to b too
  pub seen_stepped : DescribesMen men (stepped men a o b x k u t x) c (occupancy_with (occupancy_lifted men a o b k) t)
  unfolding squares_of
  seen_stepped = search (rules, attacker_stands, occupied_stepped, squares_both, squares_not)
