-- What the frames of the walk over the parts' first moves mean (own): no half-move is left at any of them.
use Rattle.std.specs.Prelude.{◌≡◌, ℕ, ◌-◌, ◌≤◌, ◌<◌, true, false, List, [], ◌∷◌, ◌++◌, drop, map, length, Option, Some, None, IfSome, slice_get}
use Rattle.std.specs.Option.{option_map}
use Rattle.std.specs.List.{flat_map}
use Rattle.chess_core.specs.Position.{Position}
use Rattle.chess_core.specs.declared.man.Move.{Move}
use Rattle.chess_rules.specs.Legal.{is_legal}
use Rattle.chess_rules.specs.Play.{position_after}
use Rattle.chess_attacks.specs.RuleSet.{RuleSet}
use Rattle.chess_rules.specs.ties.Places.{moves_after}
use Rattle.pop_stipulation.specs.declared.stipulation.Goal.{Goal}
use Rattle.pop_input.specs.Posed.{Posed}
use Rattle.pop_stipulation.specs.Stipulations.{is_help}
use Rattle.pop_events.specs.declared.event.Phase.{Phase}
use Rattle.pop_battle.specs.Chess.{chess}
use Rattle.pop_walk.specs.Events.{Path, phase_half_moves, phase_start}
use Rattle.pop_parts.specs.PhaseParts.{beginnings}
use Rattle.pop_battle.specs.ties.Frames.{Frame, position}
use Rattle.pop_walk.specs.ties.Beginnings.{are_idle}
use Rattle.pop_walk.specs.ties.Walk.{IsWalking, path, walk_work}

-- the lists of moves from p that begin with one of these moves and have k moves after it
unfoldable pub beginnings_by : Goal → RuleSet → ℕ → Position → List Move → List Path
beginnings_by goal rule k p ms =
    flat_map (λ m. map (λ rest. m ∷ rest) (beginnings (chess goal rule) k
    (position_after rule p m))) ms

-- the lists of d first moves still to come from all frames, in order
unfoldable pub beginnings_to_come : Goal → RuleSet → ℕ → Position → List Frame → List Path
beginnings_to_come goal rule d p [] = []
beginnings_to_come goal rule d p (f ∷ below) =
    map (λ rest. path (f ∷ below) ++ rest)
    (beginnings_by goal rule (d - length below - 1) (position rule p (f ∷ below))
    (moves_after rule (position rule p (f ∷ below)) f.place))
    ++ beginnings_to_come goal rule d p below

-- the board has the position of the top frame of a walk over lists of d first moves
pub record IsSeeking (rule : RuleSet) (h d : ℕ) (p : Position) (frames : List Frame)
    (board : Position) : Type 0 where
  pub walking : IsWalking rule h p frames board
  pub idle : are_idle frames ≡ true
  pub within : length frames ≤ d
  pub room : d ≤ h

-- the path to the top frame and then the move, if there is one
abbrev pub path_found : List Frame → Option Move → List Path
path_found frames None = []
path_found frames (Some m) = (path frames ++ m ∷ []) ∷ []

-- what a step of the walk leaves; it may have found the last move of the next list
pub record Seeks (rule : RuleSet) (h d : ℕ) (p : Position) (old new : List Frame)
    (board : Position) (found : Option Move) : Type 0 where
  pub seeking : IsSeeking rule h d p new board
  pub come : (goal : Goal) → beginnings_to_come goal rule d p old
      ≡ path_found new found ++ beginnings_to_come goal rule d p new
  pub legal : IfSome found (λ m. is_legal rule board m ≡ true)
  pub full : IfSome found (λ m. length new ≡ d)
  pub falls : walk_work d new < walk_work d old

-- the walk found the list with this number, counted from 1 among the lists to come, or found that there
-- are fewer; the lists after it are still to come
pub record FindsNumbered (rule : RuleSet) (h d : ℕ) (p : Position) (old new : List Frame)
    (board : Position) (number : ℕ) (found : Option Move) : Type 0 where
  pub here : (goal : Goal) → slice_get (beginnings_to_come goal rule d p old) (number - 1)
      ≡ option_map (λ m. path new ++ m ∷ []) found
  pub following : (goal : Goal) → beginnings_to_come goal rule d p new
      ≡ drop number (beginnings_to_come goal rule d p old)
  pub seeking : IsSeeking rule h d p new board
  pub stands : IfSome found (λ m. IsSeeking rule h d p new board × (is_legal rule board m ≡ true)
      × (length new ≡ d))

-- the board has the position of the top frame of the walk from part to part of a phase
pub record IsBetweenParts (rule : RuleSet) (problem : Posed) (phase : Phase) (d : ℕ)
    (frames : List Frame) (board : Position) : Type 0 where
  pub seeking : IsSeeking rule (phase_half_moves problem phase) d (phase_start problem phase)
      frames board
  pub some : 1 ≤ d
  pub battle : is_help problem.stipulation.form ≡ false → d ≡ 1
