-- The lists of moves in help play.
use Rattle.pop_walk.proofs.Words.{AllPairs, Contains, Game, List, [], arith, false≢true, first_in, from_flat_map, from_map, in_cases, in_flat_map, in_map, inr, length, lines_to_goal, map, none_in_nil, pairs_flat_map, pairs_map, pairs_nil, pairs_of, path_end, refl, suc, true, zero, ℕ, ◌∷◌, ◌≡◌}
use Rattle.pop_walk.proofs.theorems.Lists.{IsPlayable, StandsBefore}

module _ {P M : Type 0} (game : Game P M) where
  -- a line in the list has the length, can be played and reaches the goal
  pub from_lines : (h : ℕ) (p : P) (line : List M) → Contains (lines_to_goal game h p) line
      → (length line ≡ h) × IsPlayable game p line × (game.goal (path_end game.after p line) ≡ true)
  unfolding lines_to_goal
  from_lines zero p line c = grind (arith, in_cases, none_in_nil)
  from_lines (suc h) p line c =
      let w = from_flat_map (λ m. map (λ line. m ∷ line) (lines_to_goal game h (game.after p m))) (game.moves p) line c in
      grind (arith, from_map (λ line. w.0 ∷ line) (lines_to_goal game h (game.after p w.0)) line w.2, from_lines h (game.after p w.0))

  -- any line with these properties is in the list
  pub in_lines : (h : ℕ) (p : P) (line : List M) → length line ≡ h → IsPlayable game p line → game.goal (path_end game.after p line) ≡ true
      → Contains (lines_to_goal game h p) line
  unfolding lines_to_goal
  in_lines h p [] long are g = grind (arith, first_in, false≢true)
  in_lines zero p (m ∷ line) long are g = absurd (omega (arith, long))
  in_lines (suc h) p (m ∷ line) long are g = in_flat_map (λ m. map (λ line. m ∷ line) (lines_to_goal game h (game.after p m))) (game.moves p) m (m ∷ line) are.0
      (in_map (λ line. m ∷ line) (lines_to_goal game h (game.after p m)) line (in_lines h (game.after p m) line (omega (arith, long)) are.1 g))

  module _ (before : M → M → Type 0) (order : (p : P) → AllPairs before (game.moves p)) where
    -- the lines stand in lexicographic order
    pub lines_stand : (h : ℕ) (p : P) → AllPairs (StandsBefore before) (lines_to_goal game h p)
    unfolding lines_to_goal
    lines_stand zero p = grind (arith, pairs_of, none_in_nil, pairs_nil)
    lines_stand (suc h) p =
        pairs_flat_map before (StandsBefore before) (λ m. map (λ line. m ∷ line) (lines_to_goal game h (game.after p m))) (game.moves p) (order p)
        (λ m. pairs_map (StandsBefore before) (StandsBefore before) (λ line. m ∷ line) (lines_to_goal game h (game.after p m)) (λ x y b. inr (refl, b))
        (lines_stand h (game.after p m)))
        (λ m n less a b c d.
        let x = from_map (λ line. m ∷ line) (lines_to_goal game h (game.after p m)) a c in
        let y = from_map (λ line. n ∷ line) (lines_to_goal game h (game.after p n)) b d in
        grind (arith, x, y))
