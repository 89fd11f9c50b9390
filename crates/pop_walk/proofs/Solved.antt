-- The paths to come from the root frame of a phase are the phase's solutions.
use Rattle.pop_walk.proofs.Words.{Battle, Bool, Form, Frame, Game, IsSound, List, None, Option, Phase, Mode, Play, Posed, RuleSet, Set, Some, [], battle_of, continuations, ap, arith, beginning_count, best_moves, cond, false, filter, flat_map, game_of, half_moves_of, help_lines, is_help, is_none, kept_paths, keeps_win, length, list_all, map, moves_after, nat_tests, node, nodes_below, phase_half_moves, phase_paths, phase_start, mode_of, refl, rules, attacker_to_move, is_in_set_play, set_tree, shown_paths, solutions, solutions_by, suc, sym, take, true, value, zero, ℕ, ◌++◌, ◌+◌, ◌-◌, ◌∙◌, ◌∷◌, ◌≡◌, legal_moves, list_all-append}
use Rattle.pop_walk.proofs.Sound.{some_way}
use Rattle.pop_walk.proofs.Battles.{value-wins, value-self_wins}
use Rattle.pop_walk.proofs.Trees.{as_nodes, beneath, by_test, flat-filter, halves, halves-seek, keeps-value, nodes_below-key, nodes_below-set, shown_paths-help, shown_paths-zero}
use Rattle.pop_walk.proofs.Kept.{to_come-root}

-- what is kept of a list of paths, and the solutions begun: `sols` are its solutions
pub record IsCutInto {M : Type 0} (help : Bool) (n : ℕ) (paths : List (List M)) (sols : List (List (List M))) : Type 0 where
  pub kept : kept_paths help n paths ≡ flat_map (λ solution. solution) (take n sols)
  pub begun : beginning_count help n paths ≡ length (take n sols)

-- help play: each path is a solution
pub lines-cut : {M : Type 0} (n : ℕ) (xs : List (List M)) → IsCutInto true n xs (map (λ x. x ∷ []) xs)
unfolding kept_paths beginning_count
lines-cut zero [] = search rules
lines-cut zero (x ∷ xs) = search rules
lines-cut (suc n) [] = search rules
lines-cut (suc n) (x ∷ xs) = search (rules, lines-cut n xs)

-- battle play: each node of one move begins a solution
abbrev some : {M : Type 0} → List M → Bool
some [] = false
some (x ∷ xs) = true

module _ {M : Type 0} where
  over : (n : ℕ) (m : M) (ys rest : List (List M)) → list_all some ys ≡ true
      → (kept_paths false n (map (λ path. m ∷ path) ys ++ rest) ≡ map (λ path. m ∷ path) ys ++ kept_paths false n rest)
      × (beginning_count false n (map (λ path. m ∷ path) ys ++ rest) ≡ beginning_count false n rest)
  unfolding kept_paths beginning_count
  over n m [] rest a = search rules
  over n m (y ∷ ys) rest a = search (rules, nat_tests, over n m ys rest)

  nodes-cut : (X : M → List (List M)) → ((m : M) → list_all some (X m) ≡ true) → (n : ℕ) (ms : List M)
      → IsCutInto false n (flat_map (λ m. node m (X m)) ms) (map (λ m. node m (X m)) ms)
  unfolding kept_paths beginning_count
  nodes-cut X full zero [] = search rules
  nodes-cut X full zero (m ∷ ms) = search rules
  nodes-cut X full (suc n) [] = search rules
  nodes-cut X full (suc n) (m ∷ ms) = search (rules, over n m (X m) (flat_map (λ x. node x (X x)) ms) (full m), nodes-cut X full n ms)

  all-over : (m : M) (xs : List (List M)) → list_all some (map (λ path. m ∷ path) xs) ≡ true
  all-over m [] = refl
  all-over m (x ∷ xs) = all-over m xs

  map-filter : {B : Type 0} (test other : M → Bool) (F G : M → B) (xs : List M) → ((x : M) → test x ≡ other x) → ((x : M) → test x ≡ true → F x ≡ G x)
      → map F (filter test xs) ≡ map G (filter other xs)
  map-filter test other F G [] s e = search rules
  map-filter test other F G (x ∷ xs) s e = search (rules, map-filter test other F G xs s e)

module _ {P M : Type 0} (game : Game P M) (mode : Mode) where
  -- no path that the walk gives is empty
  shown_paths-full : (root : Bool) (k left : ℕ) (p : P) (ms : List M) → list_all some (shown_paths mode game root k left p ms) ≡ true
  unfolding shown_paths
  shown_paths-full root zero left p ms = search rules
  shown_paths-full root (suc k) zero p ms = search rules
  shown_paths-full root (suc k) (suc t) p [] = search rules
  shown_paths-full root (suc k) (suc t) p (m ∷ ms) = search (rules, list_all-append, all-over, shown_paths-full root (suc k) (suc t) p ms)

  -- the root in battle play: its moves that meet the test, each with the nodes below it
  root-cut : (battle : Battle) (fought : mode.battle ≡ Some battle) (h n : ℕ) (p : P) (ms : List M) (other : M → Bool) (G : M → List (List M))
      → ((m : M) → value battle game h (game.after p m) ≡ other m)
      → ((m : M) → value battle game h (game.after p m) ≡ true → beneath game mode battle fought h h (game.after p m) ≡ G m)
      → IsCutInto false n (shown_paths mode game true (suc h) (suc h) p ms) (map (λ m. node m (G m)) (filter other ms))
  root-cut battle fought h n p ms other G same each =
      let T : M → Bool = λ m. value battle game h (game.after p m) in
      let X : M → List (List M) = λ m. beneath game mode battle fought h h (game.after p m) in
      let nodes = as_nodes game mode battle fought true h h p ms
      ∙ flat-filter _ T (λ m. node m (X m)) (λ m. node m (X m)) ms (λ m. by_test game mode battle fought true h (game.after p m) refl) (λ m t. refl) in
      rw (nodes, ← map-filter T other (λ m. node m (X m)) (λ m. node m (G m)) ms same (λ m t. ap (node m) (each m t)))
      (nodes-cut X (grind (arith, shown_paths-full)) n (filter T ms))

-- half-moves of a battle
pub halves-form : (form : Form) (n : ℕ) (battle : Battle) → battle_of form ≡ Some battle → half_moves_of form n ≡ halves battle n
halves-form form n battle e = search rules

module _ {P M : Type 0} where
  -- the solutions that begin with some moves of the root: in the play, and in set play
  abbrev pub tree_by : Battle → Game P M → Bool → ℕ → ℕ → P → List M → List (List (List M))
  tree_by battle game variation n h p ms =
      map (λ m. node m (cond variation (nodes_below battle game n (h - 1) (game.after p m)) [])) (filter (λ m. keeps_win battle game n (game.after p m)) ms)

  -- the solutions of set play that begin with some moves of the root
  abbrev pub set_by : Battle → Game P M → Bool → ℕ → ℕ → P → List M → List (List (List M))
  set_by battle game variation n h p ms =
      map (λ d. node d (cond variation (continuations battle game n h (game.after p d))
      (cond (game.goal (game.after p d)) [] (map (λ m. m ∷ []) (best_moves battle game n (game.after p d))))))
      (filter (λ d. is_in_set_play battle game n (game.after p d)) ms)

module _ {P M : Type 0} (game : Game P M) (mode : Mode) (battle : Battle) (fought : mode.battle ≡ Some battle) where
  set_value : (battle : Battle) (n h : ℕ) (r : P) → suc h ≡ halves battle n - 1 → value battle game h r ≡ is_in_set_play battle game n r
  set_value battle n h r e = grind (arith, value-wins game (n - 2) r, value-self_wins game (n - 1) r)

  -- the play: the tree
  pub tree-cut : (n h max : ℕ) (p : P) (ms : List M) → suc h ≡ halves battle n
      → IsCutInto false max (shown_paths mode game true (suc h) (suc h) p ms) (tree_by battle game mode.variation n (suc h) p ms)
  tree-cut n h max p ms e =
      let one : suc h - 1 ≡ h = omega arith in
      rw one (root-cut game mode battle fought h max p ms _ _ (λ m. keeps-value game battle n h (game.after p m) e)
      (λ m v. nodes_below-key game mode battle fought n h (game.after p m) (halves-seek game battle n h e) (grind arith) v))

  -- set play
  pub set-cut : (n h max : ℕ) (p : P) (ms : List M) → suc h ≡ halves battle n - 1
      → IsCutInto false max (shown_paths mode game true (suc h) (suc h) p ms) (set_by battle game mode.variation n h p ms)
  set-cut n h max p ms e =
      let s : attacker_to_move battle (suc h + 1) ≡ true = halves-seek game battle n (suc h) (omega (arith, e)) in
      root-cut game mode battle fought h max p ms _ _ (λ m. set_value battle n h (game.after p m) e)
      (λ m v. nodes_below-set game mode battle fought n h (game.after p m) (search rules) (grind arith) v)

-- a phase of no half-moves
none-cut : {M : Type 0} (help : Bool) (n : ℕ) → IsCutInto {M = M} help n [] []
unfolding kept_paths beginning_count
none-cut {M = M} help n = search rules

module _ (rule : RuleSet) (problem : Posed) (stated : IsSound problem) where
  abbrev mode : Mode
  mode = mode_of problem

  cut : (phase : Phase) (battle : Option Battle) → battle_of problem.stipulation.form ≡ battle → (h : ℕ) → phase_half_moves problem phase ≡ h
      → IsCutInto (is_none battle) problem.max_solutions (shown_paths mode (game_of rule problem) true h h (phase_start problem phase) (legal_moves rule
      (phase_start problem phase))) (solutions_by battle rule problem phase)
  unfolding help_lines set_tree
  cut phase None e zero z = rw z (search (rules, shown_paths-zero, none-cut))
  cut phase None e (suc h) z = rw (z, shown_paths-help (game_of rule problem) mode e true h (phase_start problem phase)) (lines-cut _ _)
  cut Set (Some battle) e zero z = rw z (search (rules, shown_paths-zero, none-cut))
  cut Set (Some battle) e (suc h) z =
      rw z (set-cut (game_of rule problem) mode battle e problem.stipulation.n h problem.max_solutions
      (phase_start problem Set) (legal_moves rule (phase_start problem Set))
      (sym z ∙ ap (λ x. x - 1) (halves-form problem.stipulation.form problem.stipulation.n battle e)))
  cut Play (Some battle) e zero z = absurd (omega (arith, z, some_way problem stated))
  cut Play (Some battle) e (suc h) z =
      rw z (tree-cut (game_of rule problem) mode battle e problem.stipulation.n h problem.max_solutions
      (phase_start problem Play) (legal_moves rule (phase_start problem Play))
      (sym z ∙ halves-form problem.stipulation.form problem.stipulation.n battle e))

  -- what is to come from the root frame of a phase
  pub root-solutions : (phase : Phase) (f : Frame) → f.left ≡ phase_half_moves problem phase
      → moves_after rule (phase_start problem phase) f.place ≡ legal_moves rule (phase_start problem phase)
      → IsCutInto (is_help problem.stipulation.form) problem.max_solutions (phase_paths rule problem phase (f ∷ [])) (solutions rule problem phase)
  unfolding solutions
  root-solutions phase f l b = search (rules, to_come-root, cut phase _ refl _ refl)
