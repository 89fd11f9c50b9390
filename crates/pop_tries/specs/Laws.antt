-- Laws of the definitions (own).
use Rattle.std.specs.Prelude.{◌≡◌, ◌≢◌, ◌≤◌, ◌<◌, ◌⊎◌, ◌↔◌, ℕ, true, false, [], length}
use Rattle.std.specs.List.{AllPairs, Contains}
use Rattle.chess_core.specs.WellFormed.{IsWellFormed}
use Rattle.chess_core.specs.Position.{Position}
use Rattle.chess_core.specs.declared.man.Move.{Move}
use Rattle.chess_attacks.specs.RuleSet.{RuleSet}
use Rattle.chess_rules.specs.Legal.{is_stalemate, moves}
use Rattle.chess_rules.specs.Play.{position_after}
use Rattle.pop_battle.specs.Chess.{chess}
use Rattle.pop_battle.specs.Game.{Game, can_move}
use Rattle.pop_stipulation.specs.declared.stipulation.Battle.{Battle}
use Rattle.pop_stipulation.specs.declared.stipulation.Battle.TheVariants.{Direct}
use Rattle.pop_input.specs.Posed.{Posed}
use Rattle.pop_walk.specs.Events.{game_of, play_start}
use Rattle.pop_walk.specs.Tree.{keeps_win}
use Rattle.pop_stipulation.specs.declared.stipulation.Goal.{Goal}
use Rattle.pop_stipulation.specs.declared.stipulation.Goal.TheVariants.{Mate}
use Rattle.pop_tries.specs.Tries.{Passing, is_defence, is_try, refutations}
use Rattle.pop_tries.specs.Events.{chess_passing, key_moves, play_events, try_moves}

-- where the goal isn't reached and Black has a reply, a move is a key exactly if it has no refutations
abbrev pub KeysHaveNoRefutations : Type 0
KeysHaveNoRefutations = (battle : Battle) (game : Game Position Move) (n : ℕ) (q : Position)
    → game.goal q ≡ false → can_move game q ≡ true
    → (keeps_win battle game n q ≡ true) ↔ (refutations battle game n q ≡ [])

-- there, a move is a key, or a try with at most `most` refutations, or has more of them
abbrev pub EachIsKeyOrTryOrHasMore : Type 0
EachIsKeyOrTryOrHasMore = (battle : Battle) (game : Game Position Move) (n most : ℕ)
    (passing : Passing Position Move) (q : Position)
    → game.goal q ≡ false → can_move game q ≡ true
    → (keeps_win battle game n q ≡ true)
    ⊎ ((is_try battle game n passing most q ≡ true) ⊎ (most < length (refutations battle game n q)))

-- in a direct mate a first move that stalemates is a try, unless none may be refuted
abbrev pub StalemateRefutes : Type 0
StalemateRefutes = (rule : RuleSet) (n most : ℕ) (q : Position)
    → is_stalemate rule q ≡ true → 1 ≤ most
    → is_try Direct (chess Mate rule) n (chess_passing rule) most q ≡ true

-- each refutation is a defence against the threats
abbrev pub RefutationsAreDefences : Type 0
RefutationsAreDefences = (battle : Battle) (goal : Goal) (rule : RuleSet) (n : ℕ)
    (q : Position) (d : Move) → IsWellFormed q
    → Contains (refutations battle (chess goal rule) n q) d
    → is_defence battle (chess goal rule) n (chess_passing rule) q d ≡ true

-- if a try may have as many refutations as Black has replies, each first move is a key or a try, where it
-- doesn't reach the goal and Black has a reply
abbrev pub FirstMovesAreKeysOrTries : Type 0
FirstMovesAreKeysOrTries = (battle : Battle) (rule : RuleSet) (problem : Posed) (most : ℕ)
    (m : Move)
    → Contains (moves rule (play_start problem)) m
    → (game_of rule problem).goal (position_after rule (play_start problem) m) ≡ false
    → can_move (game_of rule problem) (position_after rule (play_start problem) m) ≡ true
    → length (moves rule (position_after rule (play_start problem) m)) ≤ most
    → Contains (key_moves battle rule problem) m ⊎ Contains (try_moves battle rule problem most) m

-- no event of the play comes twice
abbrev pub NoEventComesTwice : Type 0
NoEventComesTwice = (battle : Battle) (rule : RuleSet) (problem : Posed) (most : ℕ)
    → AllPairs (λ x y. x ≢ y) (play_events battle rule problem most)
