-- The walk shows exactly the tree of the definitions.
use Rattle.pop_walk.proofs.Words.{Battle, Bool, Direct, Game, List, None, Mode, SelfMate, Some, [], continuations, ap, append-nil, arith, best_moves, cond, eqb, every_move, false, fewest_half_moves, filter, least_length_from, flat_map, flat_map_single, is_followed, is_emitted, walk_length, keeps_win, least_moves, lines_to_goal, list_all, map, nat_tests, node, nodes_below, not, shown_length, refl, rules, attacker_to_move, shown_paths, suc, sym, true, value, zero, ℕ, ◌%◌, ◌*◌, ◌++◌, ◌+◌, ◌-◌, ◌/◌, ◌<◌, ◌||◌, ◌∙◌, ◌∷◌, ◌≡◌, ◌≤◌, inl, inr}
use Rattle.pop_walk.proofs.Battles.{value-is_lost, value-is_self_lost, value-zero}
use Rattle.pop_walk.proofs.Lengths.{length-more}
use Rattle.pop_walk.proofs.GoingOn.{length_most, walk_length-keys, given-battle, walk_length-help, cases, least_length_from-least}
use Rattle.pop_walk.proofs.Least.{least_moves-direct, least_moves-selfmate}

-- the half-moves of a battle with this number of moves
abbrev pub halves : Battle → ℕ → ℕ
halves Direct k = 2 * k - 1
halves SelfMate k = 2 * k

-- lists
module _ {A B : Type 0} where
  -- joined lists that are alike one by one
  pub flat-same : (F G : A → List B) (xs : List A) → ((x : A) → F x ≡ G x) → flat_map F xs ≡ flat_map G xs
  flat-same F G xs e = ap (λ f. flat_map f xs) (λ i x. e x i)

  -- where all meet the test
  flat-all : (test : A → Bool) (F G : A → List B) (xs : List A) → list_all test xs ≡ true → ((x : A) → test x ≡ true → F x ≡ G x)
      → flat_map F xs ≡ flat_map G xs
  flat-all test F G [] t e = refl
  flat-all test F G (x ∷ xs) t e = search (rules, flat-all test F G xs, e)

  -- by those that meet it
  pub flat-filter : (test other : A → Bool) (F G : A → List B) (xs : List A) → ((x : A) → test x ≡ other x) → ((x : A) → test x ≡ true → F x ≡ G x)
      → flat_map (λ x. cond (test x) (F x) []) xs ≡ flat_map G (filter other xs)
  flat-filter test other F G [] s e = search rules
  flat-filter test other F G (x ∷ xs) s e = search (rules, flat-filter test other F G xs s e)

module _ {P M : Type 0} (game : Game P M) where
  -- with no half-move left no path is shown
  pub shown_paths-zero : (mode : Mode) (root : Bool) (k : ℕ) (p : P) (ms : List M) → shown_paths mode game root k 0 p ms ≡ []
  unfolding shown_paths
  shown_paths-zero mode root k p ms = search rules

  -- help play
  module _ (mode : Mode) (help : mode.battle ≡ None) where
    -- the lines by a move
    by_move : (b : Bool) (m : M) (xs ys : List (List M)) → cond b ([] ∷ []) [] ++ xs ≡ ys
        → cond b ((m ∷ []) ∷ []) [] ++ map (λ line. m ∷ line) xs ≡ map (λ line. m ∷ line) ys
    by_move b m xs ys e = search rules

    -- by some of the moves
    pub shown_paths-moves : (root : Bool) (k : ℕ) (p : P) (ms : List M)
        → shown_paths mode game root (suc k) (suc k) p ms ≡ flat_map (λ m. map (λ line. m ∷ line) (lines_to_goal game k (game.after p m))) ms
    unfolding shown_paths is_followed is_emitted lines_to_goal
    shown_paths-moves root zero p ms = grind (arith, flat-same, by_move, append-nil)
    shown_paths-moves root (suc k) p ms = search (rules, flat-same, by_move, walk_length-help, nat_tests, shown_paths-moves false k)

    -- by all moves of a position
    pub shown_paths-help : (root : Bool) (k : ℕ) (p : P) → shown_paths mode game root (suc k) (suc k) p (game.moves p) ≡ lines_to_goal game (suc k) p
    unfolding lines_to_goal
    shown_paths-help root k p = shown_paths-moves root k p (game.moves p)

  -- battle play: parities
  pub attacker_to_move-step : (battle : Battle) (t : ℕ) → attacker_to_move battle (t + 1) ≡ not (attacker_to_move battle t)
  attacker_to_move-step battle t = search rules

  attacker_to_move-halves : (battle : Battle) (t : ℕ) → attacker_to_move battle t ≡ true → 0 < t → (k : ℕ) × (t ≡ halves battle (suc k))
  attacker_to_move-halves SelfMate t s some = let e : t % 2 ≡ 0 = grind (arith, nat_tests) in (t / 2 - 1, omega (arith, e, some))
  attacker_to_move-halves Direct t s some = let e : t % 2 ≡ 1 = grind (arith, nat_tests) in (t / 2, omega (arith, e))

  -- the test of a move of White
  pub keeps-value : (battle : Battle) (k l : ℕ) (q : P) → suc l ≡ halves battle k → value battle game l q ≡ keeps_win battle game k q
  keeps-value battle k l q e = grind (arith, value-is_lost game (k - 1), value-is_self_lost game (k - 1))

  -- the least length by half-moves is that of the least number of moves
  pub least_moves-halves : (battle : Battle) (n t : ℕ) (q : P) → attacker_to_move battle t ≡ true → 0 < t → t ≤ 2 * n → game.goal q ≡ false
      → value battle game t q ≡ true
      → least_length_from battle game q ((t - fewest_half_moves battle) / 2) (fewest_half_moves battle) ≡ halves battle (least_moves battle game n q)
  least_moves-halves battle n t q s some most open_yet v =
      grind (arith, attacker_to_move-halves battle t s some, length-more, least_moves-selfmate game q open_yet (n - 1), least_moves-direct game q (n - 1))

  -- the value of Black's position holds after each Black move
  value-black : (battle : Battle) (t : ℕ) (q : P) → game.goal q ≡ false → attacker_to_move battle (suc t) ≡ false → value battle game (suc t) q ≡ true
      → every_move game (value battle game t) q ≡ true
  unfolding value
  value-black battle t q g s v = search rules

  -- White is to move with all half-moves of a battle left
  pub halves-seek : (battle : Battle) (k l : ℕ) → suc l ≡ halves battle k → attacker_to_move battle (l + 1) ≡ true
  halves-seek battle k l e = grind (arith, nat_tests)

  -- in battle play
  module _ (mode : Mode) (battle : Battle) (fought : mode.battle ≡ Some battle) where
    -- a move that is tested, and one that isn't
    pub by_test : (root : Bool) (t : ℕ) (q : P) → (root || attacker_to_move battle (t + 1)) ≡ true
        → is_followed mode.battle game root t q ≡ value battle game t q
    unfolding is_followed
    by_test root t q s = rw (fought, s) refl

    by_none : (t : ℕ) (q : P) → attacker_to_move battle (t + 1) ≡ false → is_followed mode.battle game false t q ≡ true
    unfolding is_followed
    by_none t q s = rw (fought, s) refl

    -- what the walk shows by some moves, as nodes
    abbrev pub beneath : ℕ → ℕ → P → List (List M)
    beneath k t q = shown_paths mode game false k (walk_length mode.battle mode.variation game t q) q (game.moves q)

    -- each move that is followed is a node
    pub as_nodes : (root : Bool) (k t : ℕ) (p : P) (ms : List M)
        → shown_paths mode game root (suc k) (suc t) p ms
        ≡ flat_map (λ m. cond (is_followed mode.battle game root t (game.after p m)) (node m (beneath k t (game.after p m))) []) ms
    unfolding shown_paths
    as_nodes root k t p ms = search (rules, flat-same, given-battle)

    -- the moves of White in its least length, over anything
    white : (n k t : ℕ) (q : P) (G : M → List (List M)) → attacker_to_move battle t ≡ true → 0 < t → t ≤ 2 * n → t ≤ suc k → game.goal q ≡ false
        → value battle game t q ≡ true → ((l : ℕ) (m : M) → attacker_to_move battle (l + 1) ≡ true → l + 1 ≤ t
        → value battle game l (game.after q m) ≡ true → node m (beneath k l (game.after q m)) ≡ G m)
        → shown_paths mode game false (suc k) (shown_length battle game t q) q (game.moves q)
        ≡ flat_map G (best_moves battle game n q)
    unfolding shown_length
    white n k zero q G s some most room open_yet v each = absurd (omega (arith, some))
    white n k (suc t) q G s some most room open_yet v each =
        let z : eqb (suc t) 0 ≡ false = grind arith in
        let least = least_moves battle game n q in
        let L = least_length_from battle game q ((suc t - fewest_half_moves battle) / 2) (fewest_half_moves battle) in
        let first = least_length_from-least game battle q ((suc t - fewest_half_moves battle) / 2) (fewest_half_moves battle) in
        let up : L ≡ suc (L - 1) = grind (arith, first) in
        let h : suc (L - 1) ≡ halves battle least = sym up ∙ least_moves-halves battle n (suc t) q s some most open_yet v in
        let s2 = halves-seek battle least (L - 1) h in
        let most2 : L ≤ suc t = length_most game battle (suc t) q false true false z s in
        rw (z, open_yet, s, up) (as_nodes false k (L - 1) q (game.moves q) ∙ flat-filter _ (λ m. keeps_win battle game least (game.after q m)) _ G
        (game.moves q) (λ m. by_test false (L - 1) (game.after q m) s2 ∙ keeps-value battle least (L - 1) (game.after q m) h)
        (λ m v2. each (L - 1) m s2 (omega (arith, up, most2)) (sym (by_test false (L - 1) (game.after q m) s2) ∙ v2)))

    open-goal : (k : ℕ) (q : P) → game.goal q ≡ true → shown_paths mode game false k (shown_length battle game k q) q (game.moves q) ≡ []
    unfolding shown_length
    open-goal k q g = search (rules, shown_paths-zero)

    module _ (variation : mode.variation ≡ true) where
      beneath-is : (k t : ℕ) (q : P) → beneath k t q ≡ shown_paths mode game false k (shown_length battle game t q) q (game.moves q)
      unfolding walk_length
      beneath-is k t q = rw (fought, variation) refl

      abbrev Tie : ℕ → ℕ → ℕ → P → Type 0
      Tie n k t q = shown_paths mode game false k (shown_length battle game t q) q (game.moves q) ≡ cond (attacker_to_move battle t)
          (continuations battle game n k q) (nodes_below battle game n k q)

      tie-goal : (n k t : ℕ) (q : P) → game.goal q ≡ true → Tie n k t q
      unfolding shown_length continuations nodes_below
      tie-goal n k t q g = search (rules, shown_paths-zero)

      tie-white : (n k t : ℕ) (q : P) → ((l : ℕ) (r : P) → value battle game l r ≡ true → l ≤ k → l ≤ 2 * n → Tie n k l r) → value battle game (suc t) q ≡ true
          → suc t ≤ suc k → suc t ≤ 2 * n → game.goal q ≡ false → attacker_to_move battle (suc t) ≡ true → Tie n (suc k) (suc t) q
      unfolding continuations
      tie-white n k t q ih v room most g s = search (rules, white, attacker_to_move-step, beneath-is)

      tie-black : (n k t : ℕ) (q : P) → ((l : ℕ) (r : P) → value battle game l r ≡ true → l ≤ k → l ≤ 2 * n → Tie n k l r) → value battle game (suc t) q ≡ true
          → suc t ≤ suc k → suc t ≤ 2 * n → game.goal q ≡ false → attacker_to_move battle (suc t) ≡ false → Tie n (suc k) (suc t) q
      unfolding nodes_below shown_length
      tie-black n k t q ih v room most g s =
          let s1 : attacker_to_move battle (t + 1) ≡ false = grind arith in
          let w : attacker_to_move battle t ≡ true = grind (arith, attacker_to_move-step) in
          grind (arith, as_nodes, game.moves q, flat-all, value-black battle t q g s v, by_none, beneath-is)

      -- what the walk shows below a move that is shown
      tie : (n k t : ℕ) (q : P) → value battle game t q ≡ true → t ≤ k → t ≤ 2 * n → Tie n k t q
      tie n k zero q v room most = tie-goal n k 0 q (sym (value-zero game battle q) ∙ v)
      tie n zero (suc t) q v room most = absurd (omega (arith, room))
      tie n (suc k) (suc t) q v room most =
          search (rules, cases (game.goal q), cases (attacker_to_move battle (suc t)), tie-black, tie-white, tie-goal, tie n k)

    -- where no variations are shown, nothing stands below a move of White
    beneath-none : (k t : ℕ) (q : P) → mode.variation ≡ false → attacker_to_move battle (t + 1) ≡ true → beneath k t q ≡ []
    beneath-none k t q v s = search (rules, walk_length-keys, shown_paths-zero)

    beneath-set : (k t : ℕ) (q : P) → attacker_to_move battle (t + 1) ≡ false
        → beneath k t q ≡ shown_paths mode game false k (shown_length battle game t q) q (game.moves q)
    unfolding walk_length
    beneath-set k t q s = search rules

    -- below a key
    pub nodes_below-key : (n h : ℕ) (q : P) → attacker_to_move battle (h + 1) ≡ true → suc h ≤ 2 * n → value battle game h q ≡ true
        → beneath h h q ≡ cond mode.variation (nodes_below battle game n h q) []
    nodes_below-key n h q s most v = elim (cases mode.variation) [
      | inl alone ↦ search (rules, beneath-none h h q alone s)
      | inr e ↦ search (rules, beneath-is e h h q, tie e n h h q v, attacker_to_move-step)
    ]

    -- below a first move of Black in set play
    pub nodes_below-set : (n h : ℕ) (r : P) → attacker_to_move battle h ≡ true → h ≤ 2 * n → value battle game h r ≡ true
        → beneath h h r ≡ cond mode.variation (continuations battle game n h r)
        (cond (game.goal r) [] (map (λ m. m ∷ []) (best_moves battle game n r)))
    nodes_below-set n h r s most v = elim (cases mode.variation) [
      | inl alone ↦ beneath-set h h r (attacker_to_move-step battle h ∙ ap not s) ∙ no_variation alone h refl (game.goal r) refl
          ∙ sym (ap (λ (b : Bool). cond b (continuations battle game n h r)
          (cond (game.goal r) [] (map (λ m. m ∷ []) (best_moves battle game n r)))) alone)
      | inr e ↦ search (rules, beneath-is e h h r, tie e n h h r v)
    ]
      where
        no_variation : mode.variation ≡ false → (h2 : ℕ) → h ≡ h2 → (g : Bool) → game.goal r ≡ g
            → shown_paths mode game false h2 (shown_length battle game h2 r) r (game.moves r) ≡ cond g [] (map (λ m. m ∷ []) (best_moves battle game n r))
        no_variation e h2 i true g = open-goal h2 r g
        no_variation e zero i false g = absurd (grind (arith, value-zero))
        no_variation e (suc k) i false g =
            white n k (suc k) r (λ m. (m ∷ []) ∷ []) (rw i at s) (omega arith) (rw i at most) (omega arith) g (rw i at v)
            (λ l m s2 less v2. ap (node m) (beneath-none k l (game.after r m) e s2))
            ∙ flat_map_single (λ m. m ∷ []) (best_moves battle game n r)
