-- The contracts of the calls to the chess crates, in the terms of the search.
use Rattle.pop_battle.proofs.Words.{Battle, Bool, Goal, List, MatchOption, Mate, Move, Option, Position, RuleSet, [], arith, can_move, chess, after_cut, cut_moves, false, filter, is_for_mate, is_goal_reached, is_mate, is_mating, is_nil, is_some, is_stalemate, length, length-append, list_any, mates, mates_after, mates_after-are, mates_between, met_after, moves, moves_after, moves_between, nat_tests, not, refl, rules, sum_by, sum_by-cons, true, value, walk_count, ℕ, ◌++◌, ◌&&◌, ◌-◌, ◌<◌, ◌∷◌, ◌≡◌, ◌≤◌}
use Rattle.pop_battle.specs.Game.{some_move as some_good}

-- there is a legal move exactly where the list of moves isn't empty
pub some_move : (goal : Goal) (rule : RuleSet) (p : Position) → not (is_nil (moves rule p)) ≡ can_move (chess goal rule) p
some_move goal rule p = grind arith

-- before all triples all moves are to come
pub after_start : (rule : RuleSet) (p : Position) → moves_after rule p 0 ≡ moves rule p
unfolding met_after moves
after_start rule p = refl

-- a goal for which `is_for_mate` holds is mate
pub for_mate : (goal : Goal) → is_for_mate goal ≡ true → goal ≡ Mate
for_mate goal e = search rules

-- what is said of mates, with one half-move left, holds where mate is the goal
pub mate-value : (rule : RuleSet) (battle : Battle) (goal : Goal) (left : ℕ) (p : Position) (v : Bool) → goal ≡ Mate → left ≡ 1
    → v ≡ value battle (chess Mate rule) 1 p → v ≡ value battle (chess goal rule) left p
mate-value rule battle goal left p v for one e = rw (for, one) e

-- a mate says that there is one, wherever it was looked for
module _ (rule : RuleSet) (p : Position) where
  pub any_mating : (ms : List Move) → list_any (is_mating rule p) ms ≡ not (is_nil (filter (is_mating rule p) ms))
  any_mating [] = search rules
  any_mating (m ∷ ms) = search (rules, any_mating ms)

  none_joined : (xs ys : List Move) → is_nil (xs ++ ys) ≡ (is_nil xs && is_nil ys)
  none_joined [] ys = refl
  none_joined (x ∷ xs) ys = refl

  some_mates : (b : ℕ) → some_good (chess Mate rule) (is_mate rule) p ≡ not (is_nil (mates_between rule p 0 b ++ mates_after rule p b))
  some_mates b = grind (arith, any_mating (moves rule p), after_start rule p, mates_after-are rule p 0, after_cut (mates rule p) 0 b (omega arith))

  -- a mate found after the killer mates
  pub mate_after : (b next : ℕ) (o : Option Move) → MatchOption o (mates_after rule p b ≡ []) (λ m. mates_after rule p b ≡ m ∷ mates_after rule p next)
      → true ≡ is_some o → true ≡ some_good (chess Mate rule) (is_goal_reached Mate rule) p
  mate_after b next o found some = grind (arith, some_mates b, none_joined)

  -- a mate found before the killer mates
  pub mate_before : (a b next : ℕ) (q : Position) (o : Option Move)
      → MatchOption o (mates_between rule q a b ≡ []) (λ m. mates_between rule q a b ≡ m ∷ mates_between rule q next b)
      → a ≡ 0 → q ≡ p → true ≡ is_some o → true ≡ some_good (chess Mate rule) (is_goal_reached Mate rule) p
  mate_before a b next q o found start same some = grind (arith, some_mates b)

  -- where neither search finds one, no move mates
  pub no_mate : (a b b' next last : ℕ) (q : Position) (o o' : Option Move)
      → MatchOption o (mates_after rule p b ≡ []) (λ m. mates_after rule p b ≡ m ∷ mates_after rule p next)
      → MatchOption o' (mates_between rule q a b' ≡ []) (λ m. mates_between rule q a b' ≡ m ∷ mates_between rule q last b')
      → a ≡ 0 → b ≡ b' → q ≡ p → false ≡ is_some o → false ≡ is_some o' → false ≡ some_good (chess Mate rule) (is_goal_reached Mate rule) p
  no_mate a b b' next last q o o' following before start cut same none none' = grind (arith, some_mates b)

-- with no half-move left nothing is walked
pub none_of : {P M : Type 0} (moves : P → List M) (after : P → M → P) (p : P) (ms : List M) → sum_by (λ m. walk_count moves after 0 (after p m)) ms ≡ 0
unfolding walk_count
none_of moves after p [] = refl
none_of moves after p (m ∷ ms) = search (rules, none_of moves after p ms)

-- with one left each move counts one
pub each_one : {P M : Type 0} (moves : P → List M) (after : P → M → P) (p : P) (ms : List M) → sum_by (λ m. walk_count moves after 1 (after p m)) ms ≡ length ms
unfolding walk_count
each_one moves after p [] = refl
each_one moves after p (m ∷ ms) = rw sum_by-cons (omega (arith, each_one moves after p ms, none_of moves after (after p m) (moves (after p m))))

-- with a half-move left there is something to walk
pub walk_count-some : {P M : Type 0} (moves : P → List M) (after : P → M → P) (left : ℕ) (p : P) → 0 < left → 1 ≤ walk_count moves after left p
unfolding walk_count
walk_count-some moves after left p some = search rules

-- a move that is found says that there is one, wherever it was looked for
module _ (goal : Goal) (rule : RuleSet) (p : Position) where
  -- a killer that was found is a legal move
  pub has_killer : (killer place next : ℕ) (o : Option Move)
      → MatchOption o (moves_between rule p place killer ≡ []) (λ m. moves_between rule p place killer ≡ m ∷ moves_between rule p next killer)
      → place ≡ killer - 1 → is_some o ≡ true → true ≡ can_move (chess goal rule) p
  has_killer killer place next o f at e = grind (arith, cut_moves rule p place killer (omega (arith, at)), length-append, nat_tests)

  -- the first move is found exactly where there is one
  pub has_first : (place next : ℕ) (o : Option Move)
      → MatchOption o (moves_after rule p place ≡ []) (λ m. moves_after rule p place ≡ m ∷ moves_after rule p next)
      → place ≡ 0 → is_some o ≡ can_move (chess goal rule) p
  has_first place next o f at = grind (arith, after_start, nat_tests)

  -- where there is a move the goal isn't reached
  pub unreached : can_move (chess goal rule) p ≡ true → is_goal_reached goal rule p ≡ false
  unfolding is_mate is_stalemate
  unreached e = search rules

-- for `value_at_once`: what ends a value before a frame is opened
pub ruleset settling = (for_mate, mate-value, walk_count-some)
