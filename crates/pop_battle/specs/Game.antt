-- An abstract game of two sides; nothing here is chess. Direct mate, selfmate and helpmate ask for what the
-- Codex for Chess Composition and the Popeye manual say.
use Rattle.std.specs.Prelude.{ℕ, zero, suc, ◌==◌, Bool, false, not, ◌&&◌, ◌||◌, if◌then◌else◌, List, [], ◌∷◌, map, length}
use Rattle.std.specs.List.{list_any, list_all, flat_map}

-- the legal moves of a position in order, the position after a move, and whether the goal is reached
pub record Game (P M : Type 0) : Type 0 where
  pub moves : P → List M
  pub after : P → M → P
  pub goal : P → Bool

module _ {P M : Type 0} where
  -- there is a legal move
  abbrev pub can_move : Game P M → P → Bool
  can_move game p = not (length (game.moves p) == 0)

  -- some legal move leads to a position that meets the test
  abbrev pub some_move : Game P M → (P → Bool) → P → Bool
  some_move game test p = list_any (λ m. test (game.after p m)) (game.moves p)

  -- every legal move leads to a position that meets the test
  abbrev pub every_move : Game P M → (P → Bool) → P → Bool
  every_move game test p = list_all (λ m. test (game.after p m)) (game.moves p)

  -- Direct play: in q the goal is reached, or the other side reaches it within j further moves against
  -- every defence
  unfoldable pub is_lost : Game P M → ℕ → P → Bool
  is_lost game zero q = game.goal q
  is_lost game (suc j) q = game.goal q || (can_move game q
      && every_move game (some_move game (is_lost game j)) q)

  -- the side to move in p reaches the goal within k moves
  unfoldable pub wins : Game P M → ℕ → P → Bool
  wins game zero p = false
  wins game (suc k) p = some_move game (is_lost game k) p

  -- Selfmate: the side to move in p forces the other side to reach the goal within k moves
  unfoldable pub self_wins : Game P M → ℕ → P → Bool
  self_wins game zero p = false
  self_wins game (suc k) p =
      some_move game (λ q. can_move game q
      && every_move game (λ r. game.goal r || self_wins game k r) q) p

  -- Selfmate: in q there is a reply, and each reply reaches the goal or leaves the side that forces it a win
  -- within j further moves.
  unfoldable pub is_self_lost : Game P M → ℕ → P → Bool
  is_self_lost game j q = can_move game q && every_move game
      (λ r. game.goal r || self_wins game j r) q

  -- Help play: all lists of h moves, each legal when it is played, after which the goal is reached; in the
  -- order of moves
  unfoldable pub lines_to_goal : Game P M → ℕ → P → List (List M)
  lines_to_goal game zero p = if game.goal p then [] ∷ [] else []
  lines_to_goal game (suc h) p =
      flat_map (λ m. map (λ line. m ∷ line) (lines_to_goal game h (game.after p m))) (game.moves p)

  -- the lines of a help problem: with no half-move there is no line
  unfoldable pub help_lines : Game P M → ℕ → P → List (List M)
  help_lines game zero p = []
  help_lines game (suc h) p = lines_to_goal game (suc h) p

  -- the position to which a path leads
  abbrev pub path_end : (P → M → P) → P → List M → P
  path_end after p [] = p
  path_end after p (m ∷ path) = path_end after (after p m) path
