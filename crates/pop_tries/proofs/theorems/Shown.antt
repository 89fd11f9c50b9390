-- What is shown below a first move, for any game: which threats and replies, in which order, and that
-- nothing comes twice.
use Rattle.pop_tries.proofs.Words.{AllPairs, Battle, Below, Bool, can_move, stalemate, Contains, Game, List, Passing, [], ap, arith, below_first, below_reply, best_moves, Contains-append_cases, in_cases, but, check, cond, faced, false, filter_agree, flat_map, from_map, has_threat, in_map, inl, inr, is_defence, is_in_set_play, map, none_in_nil, pairs_append, pairs_later, pairs_map, pairs_of, pairs_weaker, refl, refutation, refutations, reply, reply_nodes, set_tree, shown_refutations, shown_replies, suc, sym, subst, threat, threat_nodes, threatened, threats, true, zugzwang, AllPairs-filter, node, ℕ, ◌&&◌, ◌++◌, ◌-◌, ◌↔◌, ◌∙◌, ◌∷◌, ◌≡◌, ◌≢◌, ◌≤◌}
use Rattle.pop_battle.proofs.Words.{append_assoc}
use Rattle.pop_tries.proofs.Words.{pairs_nil, ◌+◌}
use Rattle.pop_walk.proofs.Nodes.{HoldsOfTrees, deeper_are, in_order, roots_are, set_tree_paths, singles_hold, trees_hold, unless}
unfoldable use Rattle.pop_walk.proofs.Nodes.{below_set}
use Rattle.pop_walk.proofs.theorems.Lists.{StandsBefore, never_before_itself}
use Rattle.pop_walk.proofs.theorems.Trees.{IsBest, continuations_are}
use Rattle.pop_tries.proofs.theorems.Threats.{each_is_defence_where_nothing_threatens, is_best}

-- the end of a list in order is in order
pairs_back : {X : Type 0} (R : X → X → Type 0) (xs ys : List X) → AllPairs R (xs ++ ys) → AllPairs R ys
pairs_back R [] ys a = a
pairs_back R (x ∷ xs) ys a = pairs_back R xs ys (pairs_later R x (xs ++ ys) a)

-- lists of which nothing comes twice, whose elements have ranks from k on
module _ {X : Type 0} (rank : X → ℕ) where
  abbrev pub Rising : ℕ → List X → Type 0
  Rising k xs = AllPairs (λ x y. x ≢ y) xs × ((x : X) → Contains xs x → k ≤ rank x)

  pub rising : (k : ℕ) (xs ys : List X) → AllPairs (λ x y. x ≢ y) xs → ((x : X) → Contains xs x → rank x ≡ k) → Rising (k + 1) ys → Rising k (xs ++ ys)
  rising k xs ys differ same later = (
    pairs_append (λ x y. x ≢ y) xs ys differ later.0 (λ x y c d e. omega (arith, ap rank e, same x c, later.1 y d)),
    λ x c. elim (Contains-append_cases xs ys x c) [ inl a ↦ omega (arith, same x a) | inr b ↦ omega (arith, later.1 x b) ],
  )

  pub one : (k : ℕ) (x : X) (ys : List X) → rank x ≡ k → Rising (k + 1) ys → Rising k (x ∷ ys)
  one k x ys is later = rising k (x ∷ []) ys (pairs_of (λ x y. x ≢ y) x [] (λ y c. absurd (none_in_nil y c)) (pairs_nil (λ x y. x ≢ y)))
      (λ y c. elim (in_cases x [] y c) [ inl e ↦ ap rank (sym e) ∙ is | inr none ↦ absurd (none_in_nil y none) ]) later

-- a first move leads to q, with h half-moves left
module _ {P M : Type 0} (battle : Battle) (game : Game P M) (n : ℕ) (passing : Passing P M) (variation : Bool) (h : ℕ) (q : P) where
  -- A reply is shown exactly if White still wins after it and it is a defence.
  pub replies_shown_are : (d : M) → Contains (reply_nodes battle game n passing variation h q) (d ∷ [])
      ↔ (Contains (game.moves q) d × ((is_in_set_play battle game n (game.after q d) && is_defence battle game n passing q d) ≡ true))
  replies_shown_are d = roots_are (λ d. below_reply battle game n variation (h - 1) (game.after q d))
      (λ d. is_in_set_play battle game n (game.after q d) && is_defence battle game n passing q d) (game.moves q) d

  -- Below a shown reply stand its continuations, as below a first move of set play.
  pub replies_go_on : (d x : M) (path : List M) → Contains (reply_nodes battle game n passing variation h q) (d ∷ (x ∷ path))
      ↔ (Contains (game.moves q) d × ((is_in_set_play battle game n (game.after q d) && is_defence battle game n passing q d) ≡ true)
      × Contains (below_reply battle game n variation (h - 1) (game.after q d)) (x ∷ path))
  replies_go_on d x path = deeper_are (λ d. below_reply battle game n variation (h - 1) (game.after q d))
      (λ d. is_in_set_play battle game n (game.after q d) && is_defence battle game n passing q d) (game.moves q) d x path

  by_variation : (variation : Bool) (t : M) → 2 ≤ h → game.goal (passing.passed q) ≡ false
      → Contains (below_reply battle game n variation (h - 1) (passing.passed q)) (t ∷ []) ↔ IsBest battle game n (passing.passed q) t
  by_variation true t deep unmet =
      let are = continuations_are battle game n (h - 1) (passing.passed q) t in
      (λ c. (are.0 c).2, λ best. are.1 (omega (arith, deep), unmet, best))
  by_variation false t deep unmet =
      let singles = map (λ m. m ∷ []) (best_moves battle game n (passing.passed q)) in
      let best = is_best battle game n passing q (passing.passed q) t in
      rw unmet (
        λ c. let w = from_map (λ m. m ∷ []) (best_moves battle game n (passing.passed q)) (t ∷ []) c in best.0 (grind arith),
        λ b. in_map (λ m. m ∷ []) (best_moves battle game n (passing.passed q)) t (best.1 b),
      )

  -- The threats are shown, and no other move is shown as one, if half-moves are left for them and the goal
  -- isn't reached by passing.
  pub threats_shown_are : (t : M) → 2 ≤ h → game.goal (passing.passed q) ≡ false
      → Contains (threat_nodes battle game n passing variation h q) (t ∷ []) ↔ Contains (threats battle game n passing q) t
  threats_shown_are t deep unmet = by (has_threat battle game n passing q) refl
    where
      by : (b : Bool) → has_threat battle game n passing q ≡ b
          → Contains (threat_nodes battle game n passing variation h q) (t ∷ []) ↔ Contains (threats battle game n passing q) t
      by true e =
          let are = by_variation variation t deep unmet in
          let best = is_best battle game n passing q (passing.passed q) t in
          rw e (λ c. best.1 (are.0 c), λ c. are.1 (best.0 c))
      by false e = rw e (λ c. absurd (none_in_nil (t ∷ []) c), λ c. absurd (none_in_nil t c))

  module _ {Ok : List M → Type 0} {Q : List (List M) → Type 0} (holds : HoldsOfTrees game Ok Q) where
    below_reply_holds : (variation : Bool) (k : ℕ) (r : P) → Q (below_reply battle game n variation k r)
    below_reply_holds true k r = (trees_hold battle game n holds k).1 r
    below_reply_holds false k r = unless battle game n holds (game.goal r) _
        (singles_hold battle game n holds (best_moves battle game n r) (holds.some _ _ (holds.moves r)))

    replies_hold : Q (reply_nodes battle game n passing variation h q)
    replies_hold = holds.nodes _ (shown_replies battle game n passing q) (holds.some _ _ (holds.moves q))
        (λ d. below_reply_holds variation (h - 1) (game.after q d))

    threats_hold : Q (threat_nodes battle game n passing variation h q)
    threats_hold = by (has_threat battle game n passing q)
      where
        by : (b : Bool) → Q (cond b (below_reply battle game n variation (h - 1) (passing.passed q)) [])
        by true = below_reply_holds variation (h - 1) (passing.passed q)
        by false = holds.none

  module _ (before : M → M → Type 0) (order : (p : P) → AllPairs before (game.moves p)) where
    -- If the moves of each position are in an order, the shown replies with the nodes below them come in its
    -- lexicographic order.
    pub replies_in_order : AllPairs (StandsBefore before) (reply_nodes battle game n passing variation h q)
    replies_in_order = (replies_hold (in_order game before order)).1

    -- The threats, with the nodes below them, come in this order too.
    pub threats_in_order : AllPairs (StandsBefore before) (threat_nodes battle game n passing variation h q)
    threats_in_order = (threats_hold (in_order game before order)).1

  -- what is listed in an order without repetition: check, threat or zugzwang; threats; replies; the word
  -- `but`; refutations
  abbrev part : Below M → ℕ
  part check = 0
  part threat = 0
  part zugzwang = 0
  part (threatened path) = 1
  part (reply path) = 2
  part but = 3
  part (refutation d) = 4
  part stalemate = 4

  part_of_map : {X : Type 0} (f : X → Below M) (k : ℕ) → ((x : X) → part (f x) ≡ k) → (xs : List X) (y : Below M) → Contains (map f xs) y → part y ≡ k
  part_of_map f k all xs y c = let w = from_map f xs y c in ap part (sym w.2) ∙ all w.0

  differ : (w : Below M) → part w ≡ 0 → (ts rs : List (List M)) (ends : List (Below M)) → AllPairs (λ a b. a ≢ b) ts → AllPairs (λ a b. a ≢ b) rs
      → Rising part 4 ends → AllPairs (λ a b. a ≢ b) ((w ∷ map threatened ts ++ map reply rs) ++ (but ∷ ends))
  differ w first ts rs ends a b c =
      let refuted : Rising part 3 (but ∷ ends) = one part 3 but ends refl c in
      let replied : Rising part 2 (map reply rs ++ (but ∷ ends)) = rising part 2 (map reply rs) (but ∷ ends)
      (pairs_map (λ a b. a ≢ b) (λ a b. a ≢ b) reply rs (λ x y ne same. ne (grind arith)) b) (part_of_map reply 2 (λ x. refl) rs) refuted in
      subst (AllPairs (λ a b. a ≢ b)) (ap (λ l. w ∷ l) (sym (append_assoc (map threatened ts) (map reply rs) (but ∷ ends))))
      (one part 0 w (map threatened ts ++ (map reply rs ++ (but ∷ ends))) first
      (rising part 1 (map threatened ts) (map reply rs ++ (but ∷ ends))
      (pairs_map (λ a b. a ≢ b) (λ a b. a ≢ b) threatened ts (λ x y ne same. ne (grind arith)) a) (part_of_map threatened 1 (λ x. refl) ts) replied)).0

  refuted_ends : (ds : List M) → AllPairs (λ a b. a ≢ b) ds → Rising part 4 (map refutation ds)
  refuted_ends ds c = (
    pairs_map (λ a b. a ≢ b) (λ a b. a ≢ b) refutation ds (λ x y ne same. ne (grind arith)) c,
    λ y s. omega (arith, part_of_map refutation 4 (λ x. refl) ds y s),
  )

  stalemate_ends : Rising part 4 (stalemate ∷ [])
  stalemate_ends = one part 4 stalemate [] refl (pairs_nil (λ a b. a ≢ b), λ x c. absurd (none_in_nil x c))

  ends_rise : (b : Bool) (ds : List M) → AllPairs (λ a b. a ≢ b) ds → Rising part 4 (cond b (map refutation ds) (stalemate ∷ []))
  ends_rise true ds c = refuted_ends ds c
  ends_rise false ds c = stalemate_ends

  first_part : part (faced battle game n passing q) ≡ 0
  first_part = grind arith

  -- If no position has two equal moves, nothing is shown twice below a first move, with or without its
  -- refutations.
  pub nothing_below_comes_twice : ((p : P) → AllPairs (λ a b. a ≢ b) (game.moves p))
      → AllPairs (λ a b. a ≢ b) (below_first battle game n passing variation h q ++ shown_refutations battle game n q)
  unfolding below_first
  nothing_below_comes_twice apart_moves =
      let order = λ (p : P). apart_moves p in
      let strict = never_before_itself {M = M} (λ m n. m ≢ n) (λ m ne. ne refl) in
      let all = differ (faced battle game n passing q) first_part (threat_nodes battle game n passing variation h q)
      (reply_nodes battle game n passing variation h q) (cond (can_move game q) (map refutation (refutations battle game n q)) (stalemate ∷ []))
      (pairs_weaker _ _ _ strict (threats_in_order (λ m n. m ≢ n) order)) (pairs_weaker _ _ _ strict (replies_in_order (λ m n. m ≢ n) order))
      (ends_rise (can_move game q) (refutations battle game n q) (AllPairs-filter (λ a b. a ≢ b) _ (game.moves q) (apart_moves q))) in
      by (can_move game q) all
    where
      by : (b : Bool) → AllPairs (λ a b. a ≢ b) ((faced battle game n passing q ∷ map threatened (threat_nodes battle game n passing variation h q)
          ++ map reply (reply_nodes battle game n passing variation h q)) ++ shown_refutations battle game n q)
          → AllPairs (λ a b. a ≢ b) (cond b (faced battle game n passing q ∷ map threatened (threat_nodes battle game n passing variation h q)
          ++ map reply (reply_nodes battle game n passing variation h q)) [] ++ shown_refutations battle game n q)
      by true all = all
      by false all = pairs_back (λ a b. a ≢ b) (faced battle game n passing q ∷ map threatened (threat_nodes battle game n passing variation h q)
          ++ map reply (reply_nodes battle game n passing variation h q)) (shown_refutations battle game n q) all

-- If White threatens nothing, in check or zugzwang, below a first move stands what set play from
-- there would show.
pub set_play_where_nothing_threatens : {P M : Type 0} (battle : Battle) (game : Game P M) (n : ℕ) (passing : Passing P M) (variation : Bool) (k : ℕ) (q : P)
    → has_threat battle game n passing q ≡ false
    → reply_nodes battle game n passing variation (suc k) q ≡ flat_map (λ s. s) (set_tree battle game variation n (suc k) q)
unfolding below_set
set_play_where_nothing_threatens battle game n passing variation k q none =
    let less : k ≡ suc k - 1 = omega arith in
    let same = filter_agree (λ d. is_in_set_play battle game n (game.after q d) && is_defence battle game n passing q d)
    (λ d. is_in_set_play battle game n (game.after q d))
    (λ d. rw (each_is_defence_where_nothing_threatens battle game n passing q d none) (and_true (is_in_set_play battle game n (game.after q d))))
    (game.moves q) in
    subst (λ j. flat_map (λ d. node d (below_reply battle game n variation j (game.after q d))) (shown_replies battle game n passing q)
    ≡ flat_map (λ s. s) (set_tree battle game variation n (suc k) q)) less
    (ap (flat_map (λ d. node d (below_reply battle game n variation k (game.after q d)))) same ∙ sym (set_tree_paths battle game n variation k q))
  where
    and_true : (b : Bool) → (b && true) ≡ b
    and_true true = refl
    and_true false = refl
