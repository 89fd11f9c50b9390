-- The paths of trees.
use Rattle.pop_walk.proofs.Words.{AllPairs, AllPairs-filter, Battle, Bool, Contains, Game, List, [], continuations, arith, best_moves, cond, false, false≢true, filter, first_in, flat_map, flat_map_single, from_filter, from_flat_map, from_map, in_cases, in_filter, in_flat_map, in_map, inr, keeps_win, later_in, list_any, map, node, nodes_below, none_in_nil, or_cases, pairs_flat_map, pairs_map, pairs_nil, pairs_of, refl, rules, is_in_set_play, set_tree, subst, suc, take, take-map, tree, true, zero, ℕ, ◌++◌, ◌-◌, ◌↔◌, ◌∷◌, ◌≡◌, ◌≢◌, ◌⊎◌, flat_map-map}
use Rattle.std.proofs.Math.Seq.{take-nil}
use Rattle.pop_walk.proofs.theorems.Lists.{HasBeginnings, StandsBefore}

-- some element meets a test
pub any_from_element : {X : Type 0} (test : X → Bool) (xs : List X) (x : X) → Contains xs x → test x ≡ true → list_any test xs ≡ true
any_from_element test [] x c t = absurd (none_in_nil x c)
any_from_element test (y ∷ xs) x c t = search (rules, in_cases, any_from_element test xs x)

-- where some element meets the test, one that does
pub element_from_any : {X : Type 0} (test : X → Bool) (xs : List X) → list_any test xs ≡ true → (x : X) × (Contains xs x × (test x ≡ true))
element_from_any test [] h = absurd (false≢true h)
element_from_any test (y ∷ xs) h = search (rules, or_cases, first_in, later_in, element_from_any test xs)

-- the first of joined lists of a map
joined_first : {X Y : Type 0} (g : X → List Y) (k : ℕ) (xs : List X) → flat_map (λ s. s) (take k (map g xs)) ≡ flat_map g (take k xs)
joined_first g k xs = rw (take-map g k xs) (flat_map-map (λ s. s) g (take k xs))

-- no path is empty
abbrev HasNoEmpty : {M : Type 0} → List (List M) → Type 0
HasNoEmpty {M} paths = (path : List M) → Contains paths path → path ≢ []

module _ {M : Type 0} where
  -- a path of a node begins with its move
  starts : (m : M) (below : List (List M)) (path : List M) → Contains (node m below) path → (rest : List M) × (m ∷ rest ≡ path)
  starts m below path c = search (rules, in_cases (m ∷ []) (map (λ path. m ∷ path) below) path, from_map (λ path. m ∷ path) below path)

  module _ (f : M → List (List M)) where
    -- a path of nodes: its first move is one of theirs, and the others are none or a path below it
    pub from_nodes : (ms : List M) (m : M) (path : List M) → Contains (flat_map (λ m. node m (f m)) ms) (m ∷ path)
        → Contains ms m × ((path ≡ []) ⊎ Contains (f m) path)
    from_nodes ms m path c =
        let w = from_flat_map (λ m. node m (f m)) ms (m ∷ path) c in
        search (rules, in_cases (w.0 ∷ []) (map (λ path. w.0 ∷ path) (f w.0)) (m ∷ path) w.2, from_map (λ path. w.0 ∷ path) (f w.0) (m ∷ path))

    root_in_nodes : (ms : List M) (m : M) → Contains ms m → Contains (flat_map (λ m. node m (f m)) ms) (m ∷ [])
    root_in_nodes ms m c = in_flat_map (λ m. node m (f m)) ms m (m ∷ []) c (first_in (m ∷ []) (map (λ path. m ∷ path) (f m)))

    path_in_nodes : (ms : List M) (m : M) (path : List M) → Contains ms m → Contains (f m) path → Contains (flat_map (λ m. node m (f m)) ms) (m ∷ path)
    path_in_nodes ms m path c b = search (rules, in_flat_map (λ m. node m (f m)) ms m, later_in, in_map (λ path. m ∷ path))

    nodes_not_empty : (ms : List M) → HasNoEmpty (flat_map (λ m. node m (f m)) ms)
    nodes_not_empty ms path c e = let w = from_flat_map (λ m. node m (f m)) ms path c in grind (arith, starts w.0 (f w.0) path w.2)

    -- nodes over lists that have their beginnings have theirs
    pub nodes_have_beginnings : ((m : M) → HasBeginnings (f m)) → (ms : List M) → HasBeginnings (flat_map (λ m. node m (f m)) ms)
    nodes_have_beginnings closed ms x [] ys c = root_in_nodes ms x (from_nodes ms x ys c).0
    nodes_have_beginnings closed ms x (y ∷ xs) ys c = grind (arith, from_nodes ms x ((y ∷ xs) ++ ys) c, path_in_nodes ms x (y ∷ xs), closed x y xs ys)

    module _ (before : M → M → Type 0) where
      -- nodes in order, with paths in order below each
      pub nodes_stand : (ms : List M) → AllPairs before ms → ((m : M) → AllPairs (StandsBefore before) (f m)) → ((m : M) → HasNoEmpty (f m))
          → AllPairs (StandsBefore before) (flat_map (λ m. node m (f m)) ms)
      nodes_stand ms order each full =
          pairs_flat_map before (StandsBefore before) (λ m. node m (f m)) ms order
          (λ m. pairs_of (StandsBefore before) (m ∷ []) (map (λ path. m ∷ path) (f m))
          (λ path c. grind (arith, from_map (λ path. m ∷ path) (f m) path c, full m))
          (pairs_map (StandsBefore before) (StandsBefore before) (λ path. m ∷ path) (f m) (λ x y b. inr (refl, b)) (each m)))
          (λ m n less a b c d. grind (arith, starts m (f m) a c, starts n (f n) b d))

-- a list, unless the goal is reached
in_unless : {X : Type 0} (g : Bool) (xs : List X) (x : X) → Contains (cond g [] xs) x ↔ ((g ≡ false) × Contains xs x)
in_unless g xs x = search rules

-- Q holds of no paths, and of nodes of moves that are Ok (a position's moves are) over lists for which it
-- holds: so it holds of trees
pub record HoldsOfTrees {P M : Type 0} (game : Game P M) (Ok : List M → Type 0) (Q : List (List M) → Type 0) : Type 0 where
  pub moves : (p : P) → Ok (game.moves p)
  pub some : (test : M → Bool) (ms : List M) → Ok ms → Ok (filter test ms)
  pub none : Q []
  pub nodes : (f : M → List (List M)) (ms : List M) → Ok ms → ((m : M) → Q (f m)) → Q (flat_map (λ m. node m (f m)) ms)

module _ {P M : Type 0} (game : Game P M) where
  -- paths with their beginnings
  pub beginnings : HoldsOfTrees game (λ ms. Unit {0}) HasBeginnings
  beginnings = record {
    moves = λ p. tt;
    some = λ test ms ok. tt;
    none = λ x xs ys c. absurd (none_in_nil ((x ∷ xs) ++ ys) c);
    nodes = λ f ms ok each. nodes_have_beginnings f each ms;
  }

  -- paths in order, none of them empty, where the moves are in order
  pub in_order : (before : M → M → Type 0) → ((p : P) → AllPairs before (game.moves p))
      → HoldsOfTrees game (AllPairs before) (λ paths. HasNoEmpty paths × AllPairs (StandsBefore before) paths)
  in_order before order = record {
    moves = order;
    some = AllPairs-filter before;
    none = (λ path c e. none_in_nil path c, pairs_nil (StandsBefore before));
    nodes = λ f ms ok each. (nodes_not_empty f ms, nodes_stand f before ms ok (λ m. (each m).1) (λ m. (each m).0));
  }

module _ {P M : Type 0} (battle : Battle) (game : Game P M) (n : ℕ) where
  -- the keys, and the moves that set play shows
  abbrev pub kept : P → List M
  kept p = filter (λ m. keeps_win battle game n (game.after p m)) (game.moves p)

  -- the first moves that set play shows
  abbrev pub set_moves : P → List M
  set_moves p = filter (λ d. is_in_set_play battle game n (game.after p d)) (game.moves p)

  -- what stands below the first moves of a play and of set play
  module _ (variation : Bool) where
    -- what stands below a key
    unfoldable pub below_key : ℕ → P → M → List (List M)
    below_key h p m = cond variation (nodes_below battle game n (h - 1) (game.after p m)) []

    -- what stands below a first move of set play
    unfoldable pub below_set : ℕ → P → M → List (List M)
    below_set h p d = cond variation (continuations battle game n h (game.after p d))
        (cond (game.goal (game.after p d)) [] (map (λ m. m ∷ []) (best_moves battle game n (game.after p d))))

    -- all paths of a play and of set play
    pub tree_paths : (h : ℕ) (p : P) → flat_map (λ s. s) (tree battle game variation n h p) ≡ flat_map (λ m. node m (below_key h p m)) (kept p)
    unfolding below_key
    tree_paths h p = flat_map-map (λ s. s) (λ m. node m (cond variation (nodes_below battle game n (h - 1) (game.after p m)) [])) (kept p)

    -- set play's paths as nodes
    pub set_tree_paths : (h : ℕ) (p : P)
        → flat_map (λ s. s) (set_tree battle game variation n (suc h) p) ≡ flat_map (λ d. node d (below_set h p d)) (set_moves p)
    unfolding set_tree below_set
    set_tree_paths h p = flat_map-map (λ s. s) (λ d. node d (below_set h p d)) (set_moves p)

  -- a property of trees holds of all of a game's trees
  module _ {Ok : List M → Type 0} {Q : List (List M) → Type 0} (holds : HoldsOfTrees game Ok Q) where
    pub unless : (g : Bool) (paths : List (List M)) → Q paths → Q (cond g [] paths)
    unless g paths h = search (rules, holds.none)

    pub trees_hold : (h : ℕ) → ((q : P) → Q (nodes_below battle game n h q)) × ((r : P) → Q (continuations battle game n h r))
    unfolding nodes_below continuations
    trees_hold zero = (λ q. holds.none, λ r. holds.none)
    trees_hold (suc h) = (
      λ q. unless (game.goal q) _ (holds.nodes _ (game.moves q) (holds.moves q) (λ d. (trees_hold h).1 (game.after q d))),
      λ r. unless (game.goal r) _ (holds.nodes _ (best_moves battle game n r) (holds.some _ _ (holds.moves r)) (λ m. (trees_hold h).0 (game.after r m))),
    )

    pub singles_hold : (ms : List M) → Ok ms → Q (map (λ m. m ∷ []) ms)
    singles_hold ms ok = subst Q (flat_map_single (λ m. m ∷ []) ms) (holds.nodes (λ m. []) ms ok (λ m. holds.none))

    below_key_holds : (variation : Bool) (h : ℕ) (p : P) (m : M) → Q (below_key variation h p m)
    unfolding below_key
    below_key_holds true h p m = (trees_hold (h - 1)).0 (game.after p m)
    below_key_holds false h p m = holds.none

    below_set_holds : (variation : Bool) (h : ℕ) (p : P) (d : M) → Q (below_set variation h p d)
    unfolding below_set
    below_set_holds true h p d = (trees_hold h).1 (game.after p d)
    below_set_holds false h p d = unless (game.goal (game.after p d)) _ (singles_hold _ (holds.some _ _ (holds.moves (game.after p d))))

    -- it holds of a play
    pub play_holds : (variation : Bool) (h : ℕ) (p : P) → Q (flat_map (λ s. s) (tree battle game variation n h p))
    play_holds variation h p = rw (tree_paths variation h p) (holds.nodes _ (kept p) (holds.some _ _ (holds.moves p)) (below_key_holds variation h p))

    -- it holds of set play
    pub set_play_holds : (variation : Bool) (h : ℕ) (p : P) → Q (flat_map (λ s. s) (set_tree battle game variation n h p))
    unfolding set_tree
    set_play_holds variation zero p = holds.none
    set_play_holds variation (suc h) p =
        rw (set_tree_paths variation h p) (holds.nodes _ (set_moves p) (holds.some _ _ (holds.moves p)) (below_set_holds variation h p))

    -- it holds of the first solutions, where all moves are Ok
    module _ (ok : (ms : List M) → Ok ms) (k : ℕ) (variation : Bool) where
      -- it holds of a play's first solutions
      pub first_play_holds : (h : ℕ) (p : P) → Q (flat_map (λ s. s) (take k (tree battle game variation n h p)))
      unfolding below_key
      first_play_holds h p =
          rw (joined_first (λ m. node m (below_key variation h p m)) k (kept p)) (holds.nodes _ (take k (kept p)) (ok _) (below_key_holds variation h p))

      -- it holds of set play's first solutions
      pub first_set_play_holds : (h : ℕ) (p : P) → Q (flat_map (λ s. s) (take k (set_tree battle game variation n h p)))
      unfolding set_tree below_set
      first_set_play_holds zero p = rw (take-nil k) holds.none
      first_set_play_holds (suc h) p =
          rw (joined_first (λ d. node d (below_set variation h p d)) k (set_moves p))
          (holds.nodes _ (take k (set_moves p)) (ok _) (below_set_holds variation h p))

-- the paths of nodes, unless the goal is reached
module _ {M : Type 0} (f : M → List (List M)) (g : Bool) (ms : List M) (m : M) where
  -- a path of one move, where nothing stands below the goal
  pub roots_unless : Contains (cond g [] (flat_map (λ m. node m (f m)) ms)) (m ∷ []) ↔ ((g ≡ false) × Contains ms m)
  roots_unless = search (rules, in_unless g (flat_map (λ m. node m (f m)) ms) (m ∷ []), from_nodes f ms m [], root_in_nodes f ms m)

  -- a longer path there
  pub deeper_unless : (x : M) (path : List M)
      → Contains (cond g [] (flat_map (λ m. node m (f m)) ms)) (m ∷ (x ∷ path)) ↔ ((g ≡ false) × Contains ms m × Contains (f m) (x ∷ path))
  deeper_unless x path =
      grind (arith, in_unless g (flat_map (λ m. node m (f m)) ms) (m ∷ (x ∷ path)), from_nodes f ms m (x ∷ path), path_in_nodes f ms m (x ∷ path))

-- nodes of the moves that meet a test
module _ {M : Type 0} (f : M → List (List M)) (test : M → Bool) (ms : List M) (m : M) where
  -- a path of one move, among nodes that meet a test
  pub roots_are : Contains (flat_map (λ m. node m (f m)) (filter test ms)) (m ∷ []) ↔ (Contains ms m × (test m ≡ true))
  roots_are = (λ c. from_filter test ms m (from_nodes f (filter test ms) m [] c).0, λ w. root_in_nodes f (filter test ms) m (in_filter test ms m w.0 w.1))

  -- a longer path there
  pub deeper_are : (x : M) (path : List M)
      → Contains (flat_map (λ m. node m (f m)) (filter test ms)) (m ∷ (x ∷ path)) ↔ (Contains ms m × (test m ≡ true) × Contains (f m) (x ∷ path))
  deeper_are x path = grind (arith, deeper_unless f false (filter test ms) m x path, from_filter test ms m, in_filter test ms m)
