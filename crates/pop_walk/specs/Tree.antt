-- The tree of a battle problem: its keys, all defences, and the continuations of least length. Key and
-- defence are the Codex's terms. That a tree shows exactly these, in the order of moves, and what set
-- play is, are own rules.
use Rattle.pop_stipulation.specs.declared.stipulation.Battle.{Battle}
use Rattle.pop_stipulation.specs.declared.stipulation.Battle.TheVariants.{Direct, SelfMate}
use Rattle.std.specs.Prelude.{ℕ, zero, suc, ◌-◌, Bool, ◌||◌, if◌then◌else◌, List, [], ◌∷◌, map}
use Rattle.std.specs.List.{filter, flat_map, position_or_len, range_with_len}
use Rattle.pop_battle.specs.Game.{Game, is_lost, wins, self_wins, is_self_lost}

module _ {M : Type 0} where
  -- the node m over the nodes below it; a tree is a list of paths, each node before the nodes below it
  abbrev pub node : M → List (List M) → List (List M)
  node m below = (m ∷ []) ∷ map (λ path. m ∷ path) below

module _ {P M : Type 0} where
  -- after a move by White that leads to q, White still wins within n moves, which include that move
  abbrev pub keeps_win : Battle → Game P M → ℕ → P → Bool
  keeps_win Direct game n q = is_lost game (n - 1) q
  keeps_win SelfMate game n q = is_self_lost game (n - 1) q

  -- White, to move, wins p within k moves
  abbrev pub wins_in : Battle → Game P M → ℕ → P → Bool
  wins_in Direct game k p = wins game k p
  wins_in SelfMate game k p = self_wins game k p

  -- the smallest number of moves, up to n, within which White, to move, wins p
  abbrev pub least_moves : Battle → Game P M → ℕ → P → ℕ
  least_moves battle game n p = position_or_len (λ k. wins_in battle game k p) (range_with_len 0 n)

  -- the moves that win in the least number of moves, up to n
  abbrev pub best_moves : Battle → Game P M → ℕ → P → List M
  best_moves battle game n r =
      filter (λ m. keeps_win battle game (least_moves battle game n r) (game.after r m))
      (game.moves r)

  unfoldable mutual
    -- the nodes below a position with Black to move and h half-moves left: every defence
    pub nodes_below : Battle → Game P M → ℕ → ℕ → P → List (List M)
    nodes_below battle game n zero q = []
    nodes_below battle game n (suc h) q =
        if game.goal q then [] else flat_map
        (λ d. node d (continuations battle game n h (game.after q d))) (game.moves q)

    -- the nodes below a position with White to move and h half-moves left: the best continuations
    pub continuations : Battle → Game P M → ℕ → ℕ → P → List (List M)
    continuations battle game n zero r = []
    continuations battle game n (suc h) r =
        if game.goal r then []
        else flat_map (λ m. node m (nodes_below battle game n h (game.after r m)))
        (best_moves battle game n r)

  -- the play of a problem of n moves and h half-moves: a list of nodes for each key
  abbrev pub tree : Battle → Game P M → Bool → ℕ → ℕ → P → List (List (List M))
  tree battle game variation n h p =
      map (λ m. node m (if variation then nodes_below battle game n (h - 1) (game.after p m)
      else []))
      (filter (λ m. keeps_win battle game n (game.after p m)) (game.moves p))

  -- set play shows the move by Black that leads to r
  abbrev pub is_in_set_play : Battle → Game P M → ℕ → P → Bool
  is_in_set_play Direct game n r = wins game (n - 1) r
  is_in_set_play SelfMate game n r = game.goal r || self_wins game (n - 1) r

  -- set play of h half-moves: a list of nodes for each first move by Black
  unfoldable pub set_tree : Battle → Game P M → Bool → ℕ → ℕ → P → List (List (List M))
  set_tree battle game variation n zero p = []
  set_tree battle game variation n (suc h) p =
      map (λ d. let r = game.after p d in
      node d (if variation then continuations battle game n h r
      else (if game.goal r then [] else map (λ m. m ∷ []) (best_moves battle game n r))))
      (filter (λ d. is_in_set_play battle game n (game.after p d)) (game.moves p))
