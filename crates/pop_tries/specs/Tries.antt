-- Refutations, tries and threats of a battle problem, for any game. The words refutation, try, threat,
-- zugzwang and defence are used as in the Codex for Chess Composition; the Popeye manual shows tries and threats
-- by its options Try and Threat. Own readings: a try has at least one refutation and at most a given number;
-- in a direct mate stalemate refutes by itself; a threat is a move, that is origin, arrival and promotion, of
-- least length; a reply that stops one of several threats is a defence; zugzwang is that White threatens
-- nothing, even if Black's only move refutes; in one move there is no threat, and each reply that the goal
-- leaves refutes.
use Rattle.pop_stipulation.specs.declared.stipulation.Battle.{Battle}
use Rattle.pop_stipulation.specs.declared.stipulation.Battle.TheVariants.{Direct, SelfMate}
use Rattle.pop_battle.specs.Game.{Game, can_move}
use Rattle.pop_walk.specs.Tree.{best_moves, continuations, is_in_set_play, keeps_win, least_moves, node, wins_in}
use Rattle.std.specs.Prelude.{ℕ, ◌-◌, nat_le, Bool, true, false, not, ◌&&◌, ◌||◌, if◌then◌else◌, List, [], ◌∷◌, ◌++◌, map, length}
use Rattle.std.specs.List.{filter, flat_map, list_any}

-- what threats need besides a game: the position after the side to move has passed, whether that side is in
-- check, and whether a move is legal
pub record Passing (P M : Type 0) : Type 0 where
  pub passed : P → P
  pub is_checked : P → Bool
  pub is_legal : P → M → Bool

-- what is shown below a first move
pub data Below (M : Type 0) : Type 0 where
  -- Black is in check
  check : Below M
  -- White threatens
  threat : Below M
  -- Black isn't in check, and White threatens nothing
  zugzwang : Below M
  -- a threat, or a node below it: the moves after Black has passed
  threatened : List M → Below M
  -- a defence, or a node below it: the moves after the first move
  reply : List M → Below M
  -- refutations follow, or stalemate as the only one
  but : Below M
  refutation : M → Below M
  stalemate : Below M

abbrev pub is_direct : Battle → Bool
is_direct Direct = true
is_direct SelfMate = false

-- a first move leads to q, with Black to move
module _ {P M : Type 0} (battle : Battle) (game : Game P M) (n : ℕ) where
  -- the refutations: the replies after which White no longer wins within n moves, one of which is made
  abbrev pub refutations : P → List M
  refutations q = filter (λ d. not (is_in_set_play battle game n (game.after q d))) (game.moves q)

  -- the refutations, as they are shown; without a reply it is stalemate
  abbrev pub shown_refutations : P → List (Below M)
  shown_refutations q =
      but ∷ (if can_move game q then map refutation (refutations q) else stalemate ∷ [])

  -- the nodes below a reply that leads to r, with h half-moves left, as in set play: the continuations of
  -- least length, with the nodes below them if variations are shown
  abbrev pub below_reply : Bool → ℕ → P → List (List M)
  below_reply variation h r = if variation then continuations battle game n h r
      else (if game.goal r then [] else map (λ m. m ∷ []) (best_moves battle game n r))

  module _ (passing : Passing P M) where
    -- in direct play Black has no reply and isn't in check: stalemate, if that isn't the goal
    abbrev pub stalemates : P → Bool
    stalemates q = is_direct battle && (not (can_move game q) && not (passing.is_checked q))

    -- how many refutations a first move has that is no key; stalemate is one
    abbrev pub refutation_count : P → ℕ
    refutation_count q = if stalemates q then 1 else length (refutations q)

    -- the first move is a try: no key, with at least one refutation and at most `most`
    abbrev pub is_try : ℕ → P → Bool
    is_try most q = not (keeps_win battle game n q)
        && (nat_le 1 (refutation_count q) && nat_le (refutation_count q) most)

    -- White threatens: Black isn't in check, and if Black passes White wins with one move less
    abbrev pub has_threat : P → Bool
    has_threat q = not (passing.is_checked q) && wins_in battle game (n - 1) (passing.passed q)

    -- the threats: the continuations of least length if Black passes
    abbrev pub threats : P → List M
    threats q = if has_threat q then best_moves battle game n (passing.passed q) else []

    -- the move t works in r: it is legal there, and wins within k moves
    abbrev pub works : ℕ → P → M → Bool
    works k r t = passing.is_legal r t && keeps_win battle game k (game.after r t)

    -- the reply d stops the threat t: after it t doesn't work within the least length that it had
    abbrev pub stops : P → M → M → Bool
    stops q d t = not (works (least_moves battle game n (passing.passed q)) (game.after q d) t)

    -- the reply d is a defence: White threatens nothing, or it stops a threat, perhaps not all
    abbrev pub is_defence : P → M → Bool
    is_defence q d = not (has_threat q) || list_any (stops q d) (threats q)

    -- the replies shown: the defences that don't refute
    abbrev pub shown_replies : P → List M
    shown_replies q =
        filter (λ d. is_in_set_play battle game n (game.after q d) && is_defence q d) (game.moves q)

    -- what Black faces: check, a threat or zugzwang
    abbrev pub faced : P → Below M
    faced q = if passing.is_checked q then check else (if has_threat q then threat else zugzwang)

    -- the threats, with the nodes below them: they are shown as if passing were a reply
    abbrev pub threat_nodes : Bool → ℕ → P → List (List M)
    threat_nodes variation h q =
        if has_threat q then below_reply variation (h - 1) (passing.passed q) else []

    -- the shown replies, with the nodes below them
    abbrev pub reply_nodes : Bool → ℕ → P → List (List M)
    reply_nodes variation h q = flat_map
        (λ d. node d (below_reply variation (h - 1) (game.after q d))) (shown_replies q)

    -- what is shown below a first move, with h half-moves left after it: nothing if Black has no reply
    unfoldable pub below_first : Bool → ℕ → P → List (Below M)
    below_first variation h q = if can_move game q
        then faced q ∷ map threatened (threat_nodes variation h q)
        ++ map reply (reply_nodes variation h q) else []
