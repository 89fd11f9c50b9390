-- Threats and the defences against them, for any game.
use Rattle.pop_tries.proofs.Words.{Battle, Bool, Contains, Direct, Game, Passing, SelfMate, and_parts, ap, arith, best_moves, cases_lt, false, false≢true, from_filter, has_threat, in_filter, inl, inr, is_defence, is_in_set_play, keeps_win, least_moves, list_any, none_in_nil, not, refl, refutations, rules, subst, sym, threats, true, wins_in, works, ℕ, ◌-◌, ◌||◌, ◌↔◌, ◌∙◌, ◌≡◌, ◌≤◌}
use Rattle.pop_walk.proofs.Nodes.{any_from_element, element_from_any}
use Rattle.pop_walk.proofs.theorems.Lengths.{least_is_one, no_win_in_none, wins_by_a_move, wins_exactly_from_least, wins_in_more}
use Rattle.pop_walk.proofs.theorems.Trees.{IsBest, some_best_where_won}
use Rattle.pop_tries.proofs.theorems.Refutations.{refutations_are}

-- a first move leads to q
module _ {P M : Type 0} (battle : Battle) (game : Game P M) (n : ℕ) (passing : Passing P M) (q : P) where
  -- The least number of moves within which White wins if Black passes.
  abbrev pub threat_length : ℕ
  threat_length = least_moves battle game n (passing.passed q)

  -- White threatens exactly if Black isn't in check and White would win with one move less if Black passed.
  pub has_threat_is : (has_threat battle game n passing q ≡ true)
      ↔ ((passing.is_checked q ≡ false) × (wins_in battle game (n - 1) (passing.passed q) ≡ true))
  has_threat_is = (λ h. grind (arith, and_parts), λ h. grind arith)

  won_if_passed : has_threat battle game n passing q ≡ true → wins_in battle game n (passing.passed q) ≡ true
  won_if_passed h = wins_in_more game battle (n - 1) n (passing.passed q) (omega arith) (has_threat_is.0 h).1

  -- A move is among the best continuations exactly if it is one of them.
  pub is_best : (r : P) (t : M) → Contains (best_moves battle game n r) t ↔ IsBest battle game n r t
  is_best r t = (
    from_filter (λ m. keeps_win battle game (least_moves battle game n r) (game.after r m)) (game.moves r) t,
    λ w. in_filter (λ m. keeps_win battle game (least_moves battle game n r) (game.after r m)) (game.moves r) t w.0 w.1,
  )

  -- A move is a threat exactly if White threatens, and the move is a best continuation if Black passes.
  pub threats_are : (t : M)
      → Contains (threats battle game n passing q) t ↔ ((has_threat battle game n passing q ≡ true) × IsBest battle game n (passing.passed q) t)
  threats_are t = by (has_threat battle game n passing q) refl
    where
      by : (b : Bool) → has_threat battle game n passing q ≡ b
          → Contains (threats battle game n passing q) t ↔ ((has_threat battle game n passing q ≡ true) × IsBest battle game n (passing.passed q) t)
      by true e = rw e (search (rules, is_best (passing.passed q) t, refl))
      by false e = rw e (λ c. absurd (none_in_nil t c), λ w. absurd (false≢true w.0))

  -- If White threatens there is a threat.
  pub some_threat : has_threat battle game n passing q ≡ true → (t : M) × Contains (threats battle game n passing q) t
  some_threat h =
      let w = some_best_where_won battle game n (passing.passed q) (won_if_passed h) in
      (w.0, (threats_are w.0).1 (h, w.1))

  -- The least length is the same among lengths up to n and among lengths up to n - 1.
  pub least_if_passed : has_threat battle game n passing q ≡ true → threat_length ≡ least_moves battle game (n - 1) (passing.passed q)
  least_if_passed h = least_is_one game battle n (n - 1) (passing.passed q) (won_if_passed h) (has_threat_is.0 h).1

  -- Where Black is in check White threatens nothing.
  pub no_threat_in_check : passing.is_checked q ≡ true → has_threat battle game n passing q ≡ false
  no_threat_in_check h = rw h refl

  -- If the first move is the only one White threatens nothing.
  pub no_threat_after_last_move : n ≤ 1 → has_threat battle game n passing q ≡ false
  no_threat_after_last_move few = by (has_threat battle game n passing q) refl
    where
      by : (b : Bool) → has_threat battle game n passing q ≡ b → has_threat battle game n passing q ≡ false
      by false e = e
      by true e =
          let won = subst (λ k. wins_in battle game k (passing.passed q) ≡ true) (omega (arith, few)) (has_threat_is.0 e).1 in
          absurd (false≢true (sym (no_win_in_none game battle (passing.passed q)) ∙ won))

  -- With check or zugzwang each reply is a defence.
  pub each_is_defence_where_nothing_threatens : (d : M) → has_threat battle game n passing q ≡ false → is_defence battle game n passing q d ≡ true
  each_is_defence_where_nothing_threatens d h = rw h refl

  -- after the reply d the threat t works
  abbrev works_after : M → M → Bool
  works_after d t = works battle game n passing threat_length (game.after q d) t

  fails : (b : Bool) → not b ≡ true → b ≡ false
  fails false e = refl
  fails true e = absurd (false≢true e)

  -- where White threatens, a defence is a reply that stops a threat
  stopping : (d : M) → has_threat battle game n passing q ≡ true
      → is_defence battle game n passing q d ≡ list_any (λ t. not (works_after d t)) (threats battle game n passing q)
  stopping d h = ap (λ b. not b || list_any (λ t. not (works_after d t)) (threats battle game n passing q)) h

  -- Where White threatens, a reply is a defence exactly if after it some threat doesn't work: it is illegal
  -- there, or doesn't win within the least length that it had.
  pub defences_are : (d : M) → has_threat battle game n passing q ≡ true → (is_defence battle game n passing q d ≡ true)
      ↔ ((t : M) × Contains (threats battle game n passing q) t × (works_after d t ≡ false))
  defences_are d h = (
    λ e. let w = element_from_any (λ t. not (works_after d t)) (threats battle game n passing q) (sym (stopping d h) ∙ e) in (w.0, w.1.0, fails _ w.1.1),
    λ w. stopping d h ∙ any_from_element (λ t. not (works_after d t)) (threats battle game n passing q) w.0 w.1 (ap not w.2),
  )

  -- White wins within n - 1 moves where a move works within k of them.
  wins_where_works : (k : ℕ) (r : P) (t : M) → 1 ≤ k → k ≤ n - 1 → ((m : M) → passing.is_legal r m ≡ true → Contains (game.moves r) m)
      → works battle game n passing k r t ≡ true → wins_in battle game (n - 1) r ≡ true
  wins_where_works k r t some most legal h =
      let w = and_parts (passing.is_legal r t) (keeps_win battle game k (game.after r t)) h in
      let any = any_from_element (λ m. keeps_win battle game k (game.after r m)) (game.moves r) t (legal t w.0) w.1 in
      wins_in_more game battle k (n - 1) r most (wins_by_a_move game battle k r some ∙ any)

  answered_where_won : (battle : Battle) (r : P) → wins_in battle game (n - 1) r ≡ true → is_in_set_play battle game n r ≡ true
  answered_where_won Direct r h = h
  answered_where_won SelfMate r h = grind arith

  -- A threat takes at least one move.
  pub at_least_one : has_threat battle game n passing q ≡ true → 1 ≤ threat_length
  at_least_one h = elim (cases_lt 0 threat_length) [
    | inl less ↦ omega (arith, less)
    | inr le ↦ absurd (false≢true (sym (no_win_in_none game battle (passing.passed q))
        ∙ (wins_exactly_from_least game battle n 0 (passing.passed q) (won_if_passed h)).1 le))
  ]

  -- Each refutation is a defence, if only moves of a position are legal in it.
  pub refutations_are_defences : (d : M) → ((m : M) → passing.is_legal (game.after q d) m ≡ true → Contains (game.moves (game.after q d)) m)
      → Contains (refutations battle game n q) d → is_defence battle game n passing q d ≡ true
  refutations_are_defences d legal c = cases (has_threat battle game n passing q) refl
    where
      by : (t : M) → Contains (threats battle game n passing q) t → (b : Bool) → works_after d t ≡ b → works_after d t ≡ false
      by t among false e = e
      by t among true e =
          let h = ((threats_are t).0 among).0 in
          let within = (wins_exactly_from_least game battle n (n - 1) (passing.passed q) (won_if_passed h)).0 (has_threat_is.0 h).1 in
          let won = wins_where_works threat_length (game.after q d) t (at_least_one h) within legal e in
          absurd (false≢true (sym ((refutations_are battle game n q d).0 c).1 ∙ answered_where_won battle (game.after q d) won))

      cases : (b : Bool) → has_threat battle game n passing q ≡ b → is_defence battle game n passing q d ≡ true
      cases false none = each_is_defence_where_nothing_threatens d none
      cases true h = let w = some_threat h in (defences_are d h).1 (w.0, w.1, by w.0 w.1 (works_after d w.0) refl)
