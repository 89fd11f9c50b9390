-- The keys and tries of a problem, under every set of rules: their order, that with many refutations each
-- first move is a key or a try, and that no event comes twice.
use Rattle.pop_tries.proofs.Words.{AllPairs, AllPairs-filter, Battle, Below, Bool, Contains, Contains-append_left, Goal, Some, battle_of, half_moves, eqb, ◌-◌, IsWellFormed, List, Move, Play, Posed, Position, Precedes, RuleSet, [], after_well_formed, ap, arith, attempt, attempt_events, below, can_move, chess, chess_passing, cond, false, false≢true, filter, flat_map, from_filter, from_flat_map, from_map, game_of, in_cases, in_filter, inl, inr, is_defence, may_be_made, is_try, keeps_win, key, key_events, key_moves, key_total, keys, legal_moves, length, length-map, map, moves_are_the_legal_moves, moves_differ, moves_in_order, none_in_nil, pairs_flat_map, pairs_front, pairs_map, pairs_nil, pairs_of, play_events, play_start, position_after, refl, refutations, set_event, shown_below, shown_refutations, subst, sym, take, take-append-drop, drop, tries, true, try_moves, try_total, no_tries, BareTryEvent, ℕ, ◌++◌, ◌∙◌, ◌∷◌, ◌≡◌, ◌≢◌, ◌≤◌, ◌⊎◌}
unfoldable use Rattle.pop_walk.proofs.Words.{solutions}
use Rattle.pop_tries.proofs.theorems.Refutations.{each_is_key_or_try, no_key_is_a_try, refutations_are, tries_are}
use Rattle.pop_tries.proofs.theorems.Shown.{Rising, nothing_below_comes_twice, one, rising}
use Rattle.pop_tries.proofs.theorems.Threats.{refutations_are_defences}

-- A first move leads to the well-formed position q. Each of its refutations is a defence.
pub refutations_of_chess_are_defences : (battle : Battle) (goal : Goal) (rule : RuleSet) (n : ℕ) (q : Position) (d : Move) → IsWellFormed q
    → Contains (refutations battle (chess goal rule) n q) d → is_defence battle (chess goal rule) n (chess_passing rule) q d ≡ true
refutations_of_chess_are_defences battle goal rule n q d well c =
    let among = ((refutations_are battle (chess goal rule) n q d).0 c).0 in
    let legal = (moves_are_the_legal_moves rule q d well).0 among in
    let after = after_well_formed rule q d well (may_be_made rule q d legal) in
    refutations_are_defences battle (chess goal rule) n (chess_passing rule) q d
    (λ m may. (moves_are_the_legal_moves rule (position_after rule q d) m after).1 may) c

-- the first elements of a list are in it
from_take : {X : Type 0} (k : ℕ) (xs : List X) (x : X) → Contains (take k xs) x → Contains xs x
from_take k xs x c = subst (λ l. Contains l x) (take-append-drop k xs) (Contains-append_left (take k xs) (drop k xs) x c)

-- the first move to which an event belongs
abbrev mover : BareTryEvent → List Move
mover no_tries = []
mover (set_event e) = []
mover keys = []
mover (key_total n stopped) = []
mover tries = []
mover (try_total n) = []
mover (key m) = m ∷ []
mover (attempt m) = m ∷ []
mover (below m e) = m ∷ []

single : (m n : Move) → m ∷ [] ≡ n ∷ [] → m ≡ n
single m n e = grind arith

module _ (battle : Battle) (rule : RuleSet) (problem : Posed) where
  start : Position
  start = play_start problem

  -- The keys come in the order of moves.
  pub keys_in_order : AllPairs Precedes (key_moves battle rule problem)
  keys_in_order = AllPairs-filter Precedes _ (legal_moves rule (play_start problem)) (moves_in_order rule (play_start problem))

  -- The keys are as many as the solutions of the play.
  pub keys_are_the_solutions : battle_of problem.stipulation.form ≡ Some battle
      → length (key_moves battle rule problem) ≡ length (solutions rule problem Play)
  unfolding solutions
  keys_are_the_solutions fought = rw fought (sym (length-map (key_moves battle rule problem) _))

  module _ (most : ℕ) where
    -- The tries come in the order of moves.
    pub tries_in_order : AllPairs Precedes (try_moves battle rule problem most)
    tries_in_order = AllPairs-filter Precedes _ (legal_moves rule (play_start problem)) (moves_in_order rule (play_start problem))

    -- With as many refutations as Black has replies, each first move is a key or a try, if it doesn't reach
    -- the goal and Black has a reply.
    pub first_moves_are_keys_or_tries : (m : Move) → Contains (legal_moves rule (play_start problem)) m
        → (game_of rule problem).goal (position_after rule (play_start problem) m) ≡ false
        → can_move (game_of rule problem) (position_after rule (play_start problem) m) ≡ true
        → length (legal_moves rule (position_after rule (play_start problem) m)) ≤ most
        → Contains (key_moves battle rule problem) m ⊎ Contains (try_moves battle rule problem most) m
    first_moves_are_keys_or_tries m c unmet some large =
        elim (each_is_key_or_try battle (game_of rule problem) problem.stipulation.n (position_after rule (play_start problem) m) (chess_passing rule) most large unmet some) [
          | inl a ↦ inl (in_filter _ (legal_moves rule (play_start problem)) m c a)
          | inr b ↦ inr (in_filter _ (legal_moves rule (play_start problem)) m c b)
        ]

    -- No key is a try.
    pub keys_are_no_tries : (m : Move) → Contains (key_moves battle rule problem) m → Contains (try_moves battle rule problem most) m → ⊥
    keys_are_no_tries m a b =
        let won = (from_filter (λ m. keeps_win battle (game_of rule problem) problem.stipulation.n (position_after rule (play_start problem) m))
        (legal_moves rule (play_start problem)) m a).1 in
        let tried = (from_filter (λ m. is_try battle (game_of rule problem) problem.stipulation.n (chess_passing rule) most
        (position_after rule (play_start problem) m))
        (legal_moves rule (play_start problem)) m b).1 in
        let none = no_key_is_a_try battle (game_of rule problem) problem.stipulation.n (position_after rule (play_start problem) m) (chess_passing rule)
        most won in
        false≢true (sym none ∙ tried)

  -- all that is shown below a try
  abbrev whole : Move → List (Below Move)
  whole m = shown_below battle rule problem m
      ++ shown_refutations battle (game_of rule problem) problem.stipulation.n (position_after rule (play_start problem) m)

  whole_differs : (m : Move) → AllPairs (λ x y. x ≢ y) (whole m)
  whole_differs m = nothing_below_comes_twice battle (game_of rule problem) problem.stipulation.n (chess_passing rule) problem.variation
      (half_moves problem.stipulation - 1) (position_after rule (play_start problem) m) (moves_differ rule)

  -- the part of the play to which an event belongs
  abbrev rank : BareTryEvent → ℕ
  rank no_tries = 0
  rank (set_event e) = 0
  rank keys = 0
  rank (key m) = 1
  rank (key_total n stopped) = 2
  rank tries = 3
  rank (attempt m) = 4
  rank (try_total n) = 5
  rank (below m e) = cond (keeps_win battle (game_of rule problem) problem.stipulation.n (position_after rule (play_start problem) m)) 1 4

  -- the events of first moves without repetition: each move, and what is below it
  module _ (head : Move → BareTryEvent) (bodies : Move → List (Below Move)) (mine : (m : Move) → mover (head m) ≡ m ∷ [])
      (apart : (m : Move) (e : Below Move) → head m ≢ below m e) (each : (m : Move) → AllPairs (λ x y. x ≢ y) (bodies m)) (ms : List Move) where
    abbrev of : Move → List BareTryEvent
    of m = head m ∷ map (below m) (bodies m)

    of_first : (test : BareTryEvent → Type 0) (m : Move) (x : BareTryEvent) → test (head m) → ((e : Below Move) → test (below m e))
        → Contains (of m) x → test x
    of_first test m x a b c = elim (in_cases (head m) (map (below m) (bodies m)) x c) [
      | inl same ↦ subst test same a
      | inr later ↦ let w = from_map (below m) (bodies m) x later in subst test w.2 (b w.0)
    ]

    firsts_differ : AllPairs (λ m n. m ≢ n) ms → AllPairs (λ x y. x ≢ y) (flat_map of ms)
    firsts_differ differ = pairs_flat_map (λ m n. m ≢ n) (λ x y. x ≢ y) of ms differ
        (λ m. pairs_of (λ x y. x ≢ y) (head m) (map (below m) (bodies m))
        (λ y c same. let w = from_map (below m) (bodies m) y c in apart m w.0 (same ∙ sym w.2))
        (pairs_map (λ x y. x ≢ y) (λ x y. x ≢ y) (below m) (bodies m) (λ x y ne same. ne (grind arith)) (each m)))
        (λ m n ne x y c d same. ne (single m n (sym (of_first (λ x. mover x ≡ m ∷ []) m x (mine m) (λ e. refl) c) ∙ ap mover same
        ∙ of_first (λ x. mover x ≡ n ∷ []) n y (mine n) (λ e. refl) d)))

    firsts_ranked : (k : ℕ) → ((m : Move) → rank (head m) ≡ k) → ((m : Move) → Contains ms m → (e : Below Move) → rank (below m e) ≡ k) → (x : BareTryEvent)
        → Contains (flat_map of ms) x → rank x ≡ k
    firsts_ranked k a b x c = let w = from_flat_map of ms x c in of_first (λ x. rank x ≡ k) w.0 x (a w.0) (b w.0 w.1) w.2

  moves_apart : (test : Move → Bool) → AllPairs (λ m n. m ≢ n) (filter test (legal_moves rule (play_start problem)))
  moves_apart test = AllPairs-filter (λ m n. m ≢ n) test (legal_moves rule (play_start problem)) (moves_differ rule (play_start problem))

  -- No event of the play comes twice.
  pub events_differ : (most : ℕ) → AllPairs (λ x y. x ≢ y) (play_events battle rule problem most)
  events_differ most =
      let shown = take problem.max_solutions (key_moves battle rule problem) in
      let attempts = try_moves battle rule problem most in
      let below_key : (m : Move) → AllPairs (λ x y. x ≢ y) (shown_below battle rule problem m) =
      λ m. pairs_front (λ x y. x ≢ y) (shown_below battle rule problem m) _ (whole_differs m) in
      let keys_apart = pairs_front (λ m n. m ≢ n) shown (drop problem.max_solutions (key_moves battle rule problem))
      (subst (AllPairs (λ m n. m ≢ n)) (sym (take-append-drop problem.max_solutions (key_moves battle rule problem))) (moves_apart _)) in
      let won : (m : Move) → Contains shown m → keeps_win battle (game_of rule problem) problem.stipulation.n
      (position_after rule (play_start problem) m) ≡ true =
      λ m c. (from_filter _ (legal_moves rule (play_start problem)) m (from_take problem.max_solutions (key_moves battle rule problem) m c)).1 in
      let lost : (m : Move) → Contains attempts m
      → keeps_win battle (game_of rule problem) problem.stipulation.n (position_after rule (play_start problem) m) ≡ false =
      λ m c. ((tries_are battle (game_of rule problem) problem.stipulation.n (position_after rule (play_start problem) m) (chess_passing rule) most).0
      (from_filter _ (legal_moves rule (play_start problem)) m c).1).0 in
      let last = one rank 5 (try_total (length attempts)) [] refl (pairs_nil (λ x y. x ≢ y), λ x c. absurd (none_in_nil x c)) in
      let ending = flat_map (attempt_events battle rule problem) attempts ++ try_total (length attempts) ∷ [] in
      let tried : Rising rank 4 ending = rising rank 4 (flat_map (attempt_events battle rule problem) attempts) (try_total (length attempts) ∷ [])
      (firsts_differ attempt whole (λ m. refl) (λ m e same. absurd (grind arith)) whole_differs attempts (moves_apart _))
      (firsts_ranked attempt whole (λ m. refl) (λ m e same. absurd (grind arith)) whole_differs attempts 4 (λ m. refl) (λ m c e. rw (lost m c) refl)) last in
      let total = key_total (length shown) (eqb (length shown) problem.max_solutions) in
      let of_keys : Rising rank 1 (flat_map (key_events battle rule problem) shown ++ total ∷ (tries ∷ ending)) =
      rising rank 1 (flat_map (key_events battle rule problem) shown) (total ∷ (tries ∷ ending))
      (firsts_differ key (shown_below battle rule problem) (λ m. refl) (λ m e same. absurd (grind arith)) below_key shown keys_apart)
      (firsts_ranked key (shown_below battle rule problem) (λ m. refl) (λ m e same. absurd (grind arith)) below_key shown 1 (λ m. refl)
      (λ m c e. rw (won m c) refl)) (one rank 2 total (tries ∷ ending) refl (one rank 3 tries ending refl tried)) in
      (one rank 0 keys (flat_map (key_events battle rule problem) shown ++ total ∷ (tries ∷ ending)) refl of_keys).0
