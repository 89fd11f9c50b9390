-- Refutations, keys and tries, for any game.
use Rattle.pop_tries.proofs.Words.{Battle, Bool, Contains, Passing, cond, is_direct, nat_le, refutation_count, ◌&&◌, Direct, Game, List, SelfMate, [], and_parts, arith, can_move, cases_lt, eqb, every_move, false, false≢true, filter, from_filter, in_filter, inl, inr, is_in_set_play, is_lost, is_self_lost, is_try, keeps_win, length, list_all, nat_tests, not, refl, refutations, suc, sym, true, wins, zero, ℕ, ◌+◌, ◌-◌, ◌<◌, ◌↔◌, ◌∙◌, ◌∷◌, ◌≡◌, ◌≤◌, ◌⊎◌}

module _ {X : Type 0} (test : X → Bool) where
  parted : (xs : List X) → length (filter test xs) + length (filter (λ x. not (test x)) xs) ≡ length xs
  parted [] = refl
  parted (x ∷ xs) = grind (arith, parted xs)

  none_fails : (xs : List X) → list_all test xs ≡ true → filter (λ x. not (test x)) xs ≡ []
  none_fails [] h = refl
  none_fails (x ∷ xs) h = grind (arith, none_fails xs)

  all_meet : (xs : List X) → filter (λ x. not (test x)) xs ≡ [] → list_all test xs ≡ true
  all_meet [] h = refl
  all_meet (x ∷ xs) h = grind (arith, all_meet xs)

-- in a list with elements not all fail
not_all_fail : {X : Type 0} (xs : List X) → not (eqb (length xs) 0) ≡ true → list_all (λ x. false) xs ≡ false
not_all_fail [] some = absurd (false≢true some)
not_all_fail (x ∷ xs) some = refl

module _ {P M : Type 0} (game : Game P M) where
  answered_where_lost : (j : ℕ) (q : P) → game.goal q ≡ false → is_lost game j q ≡ true → every_move game (wins game j) q ≡ true
  unfolding is_lost wins
  answered_where_lost zero q unmet h = absurd (false≢true (sym unmet ∙ h))
  answered_where_lost (suc j) q unmet h = grind arith

  lost_where_answered : (j : ℕ) (q : P) → can_move game q ≡ true → every_move game (wins game j) q ≡ true → is_lost game j q ≡ true
  unfolding is_lost wins
  lost_where_answered zero q some h = absurd (false≢true (sym (not_all_fail (game.moves q) some) ∙ h))
  lost_where_answered (suc j) q some h = grind arith

-- no key, and with a number of refutations
tried : (key : Bool) (count most : ℕ) → ((not key && (nat_le 1 count && nat_le count most)) ≡ true) ↔ ((key ≡ false) × (1 ≤ count) × (count ≤ most))
tried key count most = (
  λ h. grind (arith, nat_tests, and_parts),
  λ h. grind (arith, nat_tests, and_parts),
)

-- a first move leads to q
module _ {P M : Type 0} (battle : Battle) (game : Game P M) (n : ℕ) (q : P) where
  -- after the reply d White still wins within the moves left
  abbrev is_answered : M → Bool
  is_answered d = is_in_set_play battle game n (game.after q d)

  -- The replies after which White still wins within the moves left.
  abbrev pub answered : List M
  answered = filter is_answered (game.moves q)

  -- A move is a refutation exactly if it is a reply after which White no longer wins within the moves left.
  pub refutations_are : (d : M)
      → Contains (refutations battle game n q) d ↔ (Contains (game.moves q) d × (is_in_set_play battle game n (game.after q d) ≡ false))
  refutations_are d =
      grind (arith, from_filter (λ d. not (is_answered d)) (game.moves q) d, in_filter (λ d. not (is_answered d)) (game.moves q) d)

  -- After each reply White still wins, or it refutes.
  pub answered_or_refutes : (d : M) → Contains (game.moves q) d → Contains answered d ⊎ Contains (refutations battle game n q) d
  answered_or_refutes d c = by (is_answered d) refl
    where
      by : (b : Bool) → is_answered d ≡ b → Contains answered d ⊎ Contains (refutations battle game n q) d
      by true e = inl (in_filter is_answered (game.moves q) d c e)
      by false e = inr ((refutations_are d).1 (c, e))

  -- No reply is both.
  pub never_both : (d : M) → Contains answered d → Contains (refutations battle game n q) d → ⊥
  never_both d a r = false≢true (sym ((refutations_are d).0 r).1 ∙ (from_filter is_answered (game.moves q) d a).1)

  -- Each reply is counted once: the replies after which White still wins and the refutations together are as
  -- many as all replies.
  pub counted_once : length answered + length (refutations battle game n q) ≡ length (game.moves q)
  counted_once = parted is_answered (game.moves q)

  answered_where_key : (battle : Battle) → game.goal q ≡ false → keeps_win battle game n q ≡ true
      → list_all (λ d. is_in_set_play battle game n (game.after q d)) (game.moves q) ≡ true
  unfolding is_self_lost
  answered_where_key Direct unmet h = answered_where_lost game (n - 1) q unmet h
  answered_where_key SelfMate unmet h = grind arith

  key_where_answered : (battle : Battle) → can_move game q ≡ true → list_all (λ d. is_in_set_play battle game n (game.after q d)) (game.moves q) ≡ true
      → keeps_win battle game n q ≡ true
  unfolding is_self_lost
  key_where_answered Direct some h = lost_where_answered game (n - 1) q some h
  key_where_answered SelfMate some h = grind arith

  -- A key has no refutations, unless it reaches the goal.
  pub key_has_no_refutation : game.goal q ≡ false → keeps_win battle game n q ≡ true → refutations battle game n q ≡ []
  key_has_no_refutation unmet h = none_fails is_answered (game.moves q) (answered_where_key battle unmet h)

  -- A move without refutations is a key, if Black has a reply.
  pub no_refutation_is_key : can_move game q ≡ true → refutations battle game n q ≡ [] → keeps_win battle game n q ≡ true
  no_refutation_is_key some none = key_where_answered battle some (all_meet is_answered (game.moves q) none)

  -- So if Black has a reply and the goal isn't reached, a move is a key exactly if it has no refutations.
  pub keys_are_without_refutations : game.goal q ≡ false → can_move game q ≡ true
      → (keeps_win battle game n q ≡ true) ↔ (refutations battle game n q ≡ [])
  keys_are_without_refutations unmet some = (key_has_no_refutation unmet, no_refutation_is_key some)

  module _ (passing : Passing P M) where
    -- A move is a try exactly if it is no key, and has at least one refutation and at most `most`.
    pub tries_are : (most : ℕ) → (is_try battle game n passing most q ≡ true)
        ↔ ((keeps_win battle game n q ≡ false) × (1 ≤ refutation_count battle game n passing q) × (refutation_count battle game n passing q ≤ most))
    tries_are most = tried (keeps_win battle game n q) (refutation_count battle game n passing q) most

    -- A try for some number of refutations is one for any greater number.
    pub tries_stay : (most more : ℕ) → most ≤ more → is_try battle game n passing most q ≡ true → is_try battle game n passing more q ≡ true
    tries_stay most more le h =
        let w = (tries_are most).0 h in
        (tries_are more).1 (w.0, w.1, omega (arith, le, w.2))

    -- No key is a try.
    pub no_key_is_a_try : (most : ℕ) → keeps_win battle game n q ≡ true → is_try battle game n passing most q ≡ false
    no_key_is_a_try most h = rw h refl

    -- Where Black has a reply the refuting replies are counted.
    pub counted_by_replies : can_move game q ≡ true → refutation_count battle game n passing q ≡ length (refutations battle game n q)
    counted_by_replies some = rw some (by (is_direct battle))
      where
        by : (b : Bool) → cond (b && (not true && not (passing.is_checked q))) 1 (length (refutations battle game n q)) ≡ length (refutations battle game n q)
        by true = refl
        by false = refl

  some_refutation : game.goal q ≡ false → can_move game q ≡ true → keeps_win battle game n q ≡ false → 1 ≤ length (refutations battle game n q)
  some_refutation unmet some h = by (refutations battle game n q) refl
    where
      by : (ds : List M) → refutations battle game n q ≡ ds → 1 ≤ length (refutations battle game n q)
      by [] e = absurd (false≢true (sym h ∙ no_refutation_is_key some e))
      by (d ∷ ds) e = rw e (omega arith)

  -- If Black has a reply and the goal isn't reached, a first move is a key, or a try with at most `most`
  -- refutations, or has more of them.
  pub each_is_key_or_try_or_has_more : (passing : Passing P M) (most : ℕ) → game.goal q ≡ false → can_move game q ≡ true
      → (keeps_win battle game n q ≡ true) ⊎ ((is_try battle game n passing most q ≡ true) ⊎ (most < length (refutations battle game n q)))
  each_is_key_or_try_or_has_more passing most unmet some = by (keeps_win battle game n q) refl
    where
      by : (b : Bool) → keeps_win battle game n q ≡ b
          → (keeps_win battle game n q ≡ true) ⊎ ((is_try battle game n passing most q ≡ true) ⊎ (most < length (refutations battle game n q)))
      by true e = inl e
      by false e = elim (cases_lt most (length (refutations battle game n q))) [
        | inl more ↦ inr (inr more)
        | inr few ↦
            let count = counted_by_replies passing some in
            inr (inl ((tries_are passing most).1 (e, omega (arith, count, some_refutation unmet some e), omega (arith, count, few))))
      ]

  -- With as many refutations as Black has replies, each of these first moves is a key or a try.
  pub each_is_key_or_try : (passing : Passing P M) (most : ℕ) → length (game.moves q) ≤ most → game.goal q ≡ false → can_move game q ≡ true
      → (keeps_win battle game n q ≡ true) ⊎ (is_try battle game n passing most q ≡ true)
  each_is_key_or_try passing most large unmet some = elim (each_is_key_or_try_or_has_more passing most unmet some) [
    | inl a ↦ inl a
    | inr (inl b) ↦ inr b
    | inr (inr c) ↦ absurd (omega (arith, c, counted_once, large))
  ]
