-- The lines of help play: which lists of moves they are, that each comes once, and in which order.
use Rattle.pop_walk.proofs.Words.{AllPairs, Contains, Game, Goal, IsWellFormed, List, Move, Position, Precedes, RuleSet, [], after_well_formed, arith, chess, help_lines, is_goal_reached, is_legal, may_be_made, length, moves_are_the_legal_moves, moves_differ, moves_in_order, none_in_nil, pairs_nil, path_end, refl, rules, suc, true, zero, ℕ, ◌↔◌, ◌∷◌, ◌≡◌, ◌≢◌, ◌≤◌, position_after}
use Rattle.pop_walk.proofs.HelpPlay.{from_lines, in_lines, lines_stand}
use Rattle.pop_walk.proofs.theorems.Lists.{IsPlayable, StandsBefore, never_before_itself}

-- Any game.
module _ {P M : Type 0} (game : Game P M) where
  -- A list is a line of help play in h half-moves, one or more, exactly if it has h moves, can be played
  -- from p, and the goal is reached in its last position.
  pub help_lines_are : (h : ℕ) (p : P) (line : List M)
      → Contains (help_lines game h p) line ↔ ((1 ≤ h) × (length line ≡ h) × IsPlayable game p line × (game.goal (path_end game.after p line) ≡ true))
  unfolding help_lines
  help_lines_are zero p line = grind (arith, none_in_nil)
  help_lines_are (suc h) p line = grind (arith, from_lines game (suc h) p line, in_lines game (suc h) p line)

  -- Lines come in lexicographic order, by the order of the moves in each position.
  pub help_lines_in_order : (before : M → M → Type 0) → ((p : P) → AllPairs before (game.moves p))
      → (h : ℕ) (p : P) → AllPairs (StandsBefore before) (help_lines game h p)
  unfolding help_lines
  help_lines_in_order before order p h = grind (arith, pairs_nil, lines_stand)

  -- If no position has two equal moves, no two lines are equal.
  pub help_lines_differ : ((p : P) → AllPairs (λ m n. m ≢ n) (game.moves p)) → (h : ℕ) (p : P) → AllPairs (λ a b. a ≢ b) (help_lines game h p)
  help_lines_differ differ h p = search (rules, never_before_itself {M = M} (λ m n. m ≢ n) (λ m ne. ne refl), help_lines_in_order (λ m n. m ≢ n) differ h p)

-- Chess, under a set of rules.
-- Each move of the line is legal in its position.
abbrev pub IsLegalLine : RuleSet → Position → List Move → Type 0
IsLegalLine rule p [] = Unit {0}
IsLegalLine rule p (m ∷ line) = (is_legal rule p m ≡ true) × IsLegalLine rule (position_after rule p m) line

-- Chess for a goal.
module _ (goal : Goal) (rule : RuleSet) where
  -- From a well-formed position a list can be played exactly if each move is legal in its position.
  pub playable_is_legal : (p : Position) (line : List Move) → IsWellFormed p → IsPlayable (chess goal rule) p line ↔ IsLegalLine rule p line
  playable_is_legal p [] well = (λ w. tt, λ w. tt)
  playable_is_legal p (m ∷ line) well =
      let rest = playable_is_legal (position_after rule p m) line in
      grind (arith, moves_are_the_legal_moves, rest, after_well_formed, may_be_made)

  -- From a well-formed position a list is a line of help play in h half-moves, one or more, exactly if it
  -- has h moves, each legal in its position, and the goal is reached in its last position.
  pub help_lines_of_chess_are : (h : ℕ) (p : Position) (line : List Move) → IsWellFormed p → Contains (help_lines (chess goal rule) h p) line ↔ ((1 ≤ h)
      × (length line ≡ h) × IsLegalLine rule p line × (is_goal_reached goal rule (path_end (position_after rule) p line) ≡ true))
  help_lines_of_chess_are h p line well = grind (arith, help_lines_are (chess goal rule) h p line, playable_is_legal p line well)

  -- Lines come in lexicographic order of the moves.
  pub help_lines_of_chess_in_order : (h : ℕ) (p : Position) → AllPairs (StandsBefore Precedes) (help_lines (chess goal rule) h p)
  help_lines_of_chess_in_order h p = help_lines_in_order (chess goal rule) Precedes (moves_in_order rule) h p

  -- No two lines are equal.
  pub help_lines_of_chess_differ : (h : ℕ) (p : Position) → AllPairs (λ a b. a ≢ b) (help_lines (chess goal rule) h p)
  help_lines_of_chess_differ h p = help_lines_differ (chess goal rule) (moves_differ rule) h p
