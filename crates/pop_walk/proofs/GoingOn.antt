-- How many half-moves a line goes on after a move, and what is reached at its end.
use Rattle.pop_walk.proofs.Words.{Battle, Bool, Game, None, Option, Mode, Some, arith, cond, ends_at_goal, eqb, false, fewest_half_moves, least_length_from, is_followed, walk_length, inl, inr, nat_tests, shown_length, refl, rules, attacker_to_move, suc, true, value, zero, ℕ, ◌*◌, ◌+◌, ◌-◌, ◌/◌, ◌||◌, ◌≡◌, ◌≤◌, ◌⊎◌, is_emitted}

-- a test by its two results
pub cases : (b : Bool) → (b ≡ false) ⊎ (b ≡ true)
cases b = search rules

-- how the sides play
pub ways : (battle : Option Battle) → (battle ≡ None) ⊎ ((fought : Battle) × (battle ≡ Some fought))
ways None = inl refl
ways (Some battle) = inr (battle, refl)

-- a successor is not zero, as code tests it
pub no_zero : (k : ℕ) → eqb (suc k) 0 ≡ false
no_zero k = grind (arith, nat_tests)

module _ {P M : Type 0} (game : Game P M) where
  -- the number of half-moves with which the next frame is opened is at most what is left
  least_length_from-most : (battle : Battle) (q : P) (n a t : ℕ) → a + 2 * n ≤ t → least_length_from battle game q n a ≤ t
  unfolding least_length_from
  least_length_from-most battle q zero a t h = omega (arith, h)
  least_length_from-most battle q (suc n) a t h = search (rules, least_length_from-most battle q n)

  -- the length that is shown is at most what is left
  pub length_most : (battle : Battle) (t : ℕ) (q : P) (z s goal : Bool) → eqb t 0 ≡ z → attacker_to_move battle t ≡ s
      → cond (z || goal) 0 (cond s (least_length_from battle game q ((t - fewest_half_moves battle) / 2) (fewest_half_moves battle)) t) ≤ t
  length_most battle t q z s goal e u = search (rules, least_length_from-most, nat_tests)

  -- the length with which the walk goes on is at most what is left
  pub walk_length-most : (battle : Option Battle) (variation : Bool) (t : ℕ) (q : P) → walk_length battle variation game t q ≤ t
  unfolding walk_length shown_length
  walk_length-most battle variation t q = search (rules, length_most)

  -- the shortest length isn't less than the first that is tried
  pub least_length_from-least : (battle : Battle) (q : P) (n a : ℕ) → a ≤ least_length_from battle game q n a
  unfolding least_length_from
  least_length_from-least battle q zero a = search rules
  least_length_from-least battle q (suc n) a = search (rules, least_length_from-least battle q n (a + 2))

  -- where a path that is given ends with the goal, it is reached
  pub ended-reached : (battle : Option Battle) (variation root : Bool) (t : ℕ) (q : P) → is_followed battle game root t q ≡ true
      → is_emitted battle game t q ≡ true → ends_at_goal battle variation (walk_length battle variation game t q) ≡ true → game.goal q ≡ true
  unfolding is_followed is_emitted value walk_length shown_length
  ended-reached battle variation root t q f g e = search (rules, nat_tests, least_length_from-least)

module _ {P M : Type 0} (mode : Mode) (game : Game P M) where
  -- in a battle each path is given
  pub given-battle : (battle : Battle) (t : ℕ) (q : P) → mode.battle ≡ Some battle → is_emitted mode.battle game t q ≡ true
  unfolding is_emitted
  given-battle battle t q fought = rw fought refl

  -- in help play the walk follows each move, with the half-moves that are left
  pub walk_length-help : (t : ℕ) (q : P) → mode.battle ≡ None → walk_length mode.battle mode.variation game t q ≡ t
  unfolding walk_length
  walk_length-help t q help = rw help refl

  -- in help play the walk follows each move
  pub follows-help : (root : Bool) (t : ℕ) (q : P) → mode.battle ≡ None → is_followed mode.battle game root t q ≡ true
  unfolding is_followed
  follows-help root t q help = rw help refl

  -- where keys alone are shown it doesn't go on below a move of White
  pub walk_length-keys : (t : ℕ) (q : P) (battle : Battle) → mode.battle ≡ Some battle → mode.variation ≡ false
      → attacker_to_move battle (t + 1) ≡ true → walk_length mode.battle mode.variation game t q ≡ 0
  unfolding walk_length
  walk_length-keys t q battle fought b c = rw (fought, b, c) refl
