-- The trees of battle play, for any game: which moves they contain, that no path comes twice, and in which
-- order the paths come.
use Rattle.pop_walk.proofs.Words.{AllPairs, Battle, Bool, Contains, Game, List, [], continuations, arith, best_moves, false, from_filter, in_filter, keeps_win, least_moves, nodes_below, none_in_nil, refl, is_in_set_play, set_tree, suc, take, tree, true, wins_in, zero, ℕ, ◌-◌, ◌↔◌, ◌∷◌, ◌≡◌, ◌≢◌, ◌≤◌, rules}
use Rattle.pop_walk.proofs.Nodes.{any_from_element, element_from_any, beginnings, deeper_unless, first_play_holds, first_set_play_holds, in_order, play_holds, roots_are, roots_unless, deeper_are, set_play_holds, tree_paths, set_tree_paths, from_nodes, below_key, kept, below_set}
use Rattle.pop_walk.proofs.theorems.Lengths.{no_win_in_none, wins_by_a_move, wins_in_least}
use Rattle.pop_walk.proofs.theorems.Lists.{HasBeginnings, StandsBefore, never_before_itself, paths}

module _ {P M : Type 0} (battle : Battle) (game : Game P M) (n : ℕ) where
  -- m is a key: a move of the position that keeps the win within n moves.
  abbrev pub IsKey : P → M → Type 0
  IsKey p m = Contains (game.moves p) m × (keeps_win battle game n (game.after p m) ≡ true)

  -- m is a best continuation: a move of the position with which White wins in the least number of moves, up
  -- to n.
  abbrev pub IsBest : P → M → Type 0
  IsBest r m = Contains (game.moves r) m × (keeps_win battle game (least_moves battle game n r) (game.after r m) ≡ true)

  -- A single move is a path of the play, the first of a solution, exactly if it is a key.
  pub keys_are : (variation : Bool) (h : ℕ) (p : P) (m : M) → Contains (paths (tree battle game variation n h p)) (m ∷ []) ↔ IsKey p m
  keys_are variation h p m = rw (tree_paths battle game n variation h p)
      (roots_are (below_key battle game n variation h p) (λ m. keeps_win battle game n (game.after p m)) (game.moves p) m)

  -- There is a key exactly if White wins within n moves.
  pub some_key_where_won : (p : P) → 1 ≤ n → ((m : M) × IsKey p m) ↔ (wins_in battle game n p ≡ true)
  some_key_where_won p some =
      let wins = λ (m : M). keeps_win battle game n (game.after p m) in
      grind (arith, wins_by_a_move game battle n p some, any_from_element wins (game.moves p), element_from_any wins (game.moves p))

  -- Every path of the play begins with a key.
  pub paths_begin_with_keys : (variation : Bool) (h : ℕ) (p : P) (m : M) (path : List M)
      → Contains (paths (tree battle game variation n h p)) (m ∷ path) → IsKey p m
  paths_begin_with_keys variation h p m path c =
      let k = rw (tree_paths battle game n variation h p) at c in
      from_filter (λ m. keeps_win battle game n (game.after p m)) (game.moves p) m
      (from_nodes (below_key battle game n variation h p) (kept battle game n p) m path k).0

  -- With variations a path continues after a key with the paths below it.
  pub variations_are : (h : ℕ) (p : P) (m x : M) (path : List M)
      → Contains (paths (tree battle game true n h p)) (m ∷ (x ∷ path)) ↔ (IsKey p m × Contains (nodes_below battle game n (h - 1) (game.after p m)) (x ∷ path))
  unfolding below_key
  variations_are h p m x path =
      let are = deeper_are (below_key battle game n true h p) (λ m. keeps_win battle game n (game.after p m)) (game.moves p) m x path in
      grind (arith, tree_paths battle game n true h p, are)

  -- Without variations no path continues after a key.
  pub keys_alone : (h : ℕ) (p : P) (m x : M) (path : List M) → Contains (paths (tree battle game false n h p)) (m ∷ (x ∷ path)) → ⊥
  unfolding below_key
  keys_alone h p m x path c =
      let are = deeper_are (below_key battle game n false h p) (λ m. keeps_win battle game n (game.after p m)) (game.moves p) m x path in
      grind (arith, tree_paths battle game n false h p, none_in_nil, are)

  -- Below a position with Black to move, half-moves left and the goal not reached, all Black's moves are
  -- nodes.
  pub defences_are : (h : ℕ) (q : P) (d : M) → Contains (nodes_below battle game n h q) (d ∷ []) ↔ ((1 ≤ h) × (game.goal q ≡ false) × Contains (game.moves q) d)
  unfolding nodes_below
  defences_are zero q d = grind (arith, none_in_nil)
  defences_are (suc h) q d = grind (arith, roots_unless (λ d. continuations battle game n h (game.after q d)) (game.goal q) (game.moves q) d)

  -- Below a defence come the continuations against it, with one half-move less.
  pub defences_go_on : (h : ℕ) (q : P) (d x : M) (path : List M) → Contains (nodes_below battle game n (suc h) q) (d ∷ (x ∷ path)) ↔ ((game.goal q ≡ false)
      × Contains (game.moves q) d × Contains (continuations battle game n h (game.after q d)) (x ∷ path))
  unfolding nodes_below
  defences_go_on h q d x path = deeper_unless (λ d. continuations battle game n h (game.after q d)) (game.goal q) (game.moves q) d x path

  is_best : (r : P) (m : M) → Contains (best_moves battle game n r) m ↔ IsBest r m
  is_best r m = (
    from_filter (λ m. keeps_win battle game (least_moves battle game n r) (game.after r m)) (game.moves r) m,
    λ w. in_filter (λ m. keeps_win battle game (least_moves battle game n r) (game.after r m)) (game.moves r) m w.0 w.1,
  )

  -- If White wins within n moves there is a best continuation.
  pub some_best_where_won : (r : P) → wins_in battle game n r ≡ true → (m : M) × IsBest r m
  some_best_where_won r h = search (rules, wins_in_least game battle n r h, element_from_any, wins_by_a_move, no_win_in_none)

  -- Below a position with White to move, half-moves left and the goal not reached, the best continuations
  -- are nodes.
  pub continuations_are : (h : ℕ) (r : P) (m : M) → Contains (continuations battle game n h r) (m ∷ []) ↔ ((1 ≤ h) × (game.goal r ≡ false) × IsBest r m)
  unfolding continuations
  continuations_are zero r m = grind (arith, none_in_nil)
  continuations_are (suc h) r m =
      grind (arith, is_best r m, roots_unless (λ m. nodes_below battle game n h (game.after r m)) (game.goal r) (best_moves battle game n r) m)

  -- Below a continuation come the defences to it, with one half-move less.
  pub continuations_go_on : (h : ℕ) (r : P) (m x : M) (path : List M) → Contains (continuations battle game n (suc h) r) (m ∷ (x ∷ path))
      ↔ ((game.goal r ≡ false) × IsBest r m × Contains (nodes_below battle game n h (game.after r m)) (x ∷ path))
  unfolding continuations
  continuations_go_on h r m x path =
      grind (arith, is_best r m, deeper_unless (λ m. nodes_below battle game n h (game.after r m)) (game.goal r) (best_moves battle game n r) m x path)

  -- Set play, with half-moves left, shows the moves by Black after which the goal is reached or White wins
  -- with one move less.
  pub set_play_is : (variation : Bool) (h : ℕ) (p : P) (d : M) → Contains (paths (set_tree battle game variation n h p)) (d ∷ []) ↔ ((1 ≤ h)
      × Contains (game.moves p) d × (is_in_set_play battle game n (game.after p d) ≡ true))
  unfolding set_tree
  set_play_is variation zero p d = grind (arith, none_in_nil)
  set_play_is variation (suc h) p d =
      grind (arith, set_tree_paths, roots_are (below_set battle game n variation h p) (λ d. is_in_set_play battle game n (game.after p d)) (game.moves p) d)

  module _ (variation : Bool) (h : ℕ) (p : P) where
    -- Each beginning of a path of the play is a path too.
    pub play_has_beginnings : HasBeginnings (paths (tree battle game variation n h p))
    play_has_beginnings = play_holds battle game n (beginnings game) variation h p

    -- Each beginning of a path of set play is a path too.
    pub set_play_has_beginnings : HasBeginnings (paths (set_tree battle game variation n h p))
    set_play_has_beginnings = set_play_holds battle game n (beginnings game) variation h p

    -- A limit of solutions separates no path of the play from its beginnings.
    pub first_solutions_have_beginnings : (k : ℕ) → HasBeginnings (paths (take k (tree battle game variation n h p)))
    first_solutions_have_beginnings k = first_play_holds battle game n (beginnings game) (λ ms. tt) k variation h p

    -- A limit of solutions separates no path of set play from its beginnings.
    pub first_set_solutions_have_beginnings : (k : ℕ) → HasBeginnings (paths (take k (set_tree battle game variation n h p)))
    first_set_solutions_have_beginnings k = first_set_play_holds battle game n (beginnings game) (λ ms. tt) k variation h p

    -- If the moves of each position are in an order, the paths of the play come in its lexicographic order:
    -- each node before the nodes below it, and these before its next sibling.
    pub play_in_order : (before : M → M → Type 0) → ((p : P) → AllPairs before (game.moves p))
        → AllPairs (StandsBefore before) (paths (tree battle game variation n h p))
    play_in_order before order = (play_holds battle game n (in_order game before order) variation h p).1

    -- If the moves of each position are in an order, the paths of set play come in its lexicographic order.
    pub set_play_in_order : (before : M → M → Type 0) → ((p : P) → AllPairs before (game.moves p))
        → AllPairs (StandsBefore before) (paths (set_tree battle game variation n h p))
    set_play_in_order before order = (set_play_holds battle game n (in_order game before order) variation h p).1

    -- If no position has two equal moves, no two paths of the play are equal.
    pub play_differs : ((p : P) → AllPairs (λ m n. m ≢ n) (game.moves p)) → AllPairs (λ a b. a ≢ b) (paths (tree battle game variation n h p))
    play_differs differ = search (rules, never_before_itself {M = M} (λ m n. m ≢ n) (λ m ne. ne refl), play_in_order (λ m n. m ≢ n) differ)

    -- If no position has two equal moves, no two paths of set play are equal.
    pub set_play_differs : ((p : P) → AllPairs (λ m n. m ≢ n) (game.moves p)) → AllPairs (λ a b. a ≢ b) (paths (set_tree battle game variation n h p))
    set_play_differs differ = search (rules, never_before_itself {M = M} (λ m n. m ≢ n) (λ m ne. ne refl), set_play_in_order (λ m n. m ≢ n) differ)
