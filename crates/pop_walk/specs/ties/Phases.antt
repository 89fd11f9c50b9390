-- What a search in a phase has still to emit (own).
use Rattle.std.specs.Prelude.{◌≡◌, ℕ, zero, suc, ◌+◌, ◌-◌, ◌≤◌, ◌^◌, min, ◌==◌, Bool, true, false, ◌||◌, if◌then◌else◌, List, [], ◌∷◌, ◌++◌, map, length, drop, ◌⊎◌}
use Rattle.chess_core.specs.Position.{Position}
use Rattle.chess_attacks.specs.RuleSet.{RuleSet}
use Rattle.pop_input.specs.Posed.{Posed}
use Rattle.pop_stipulation.specs.Stipulations.{is_help}
use Rattle.pop_battle.specs.ties.Frames.{Frame}
use Rattle.pop_walk.specs.ties.Walk.{path, to_come, IsEnded, IsWalking}
use Rattle.pop_walk.specs.Events.{BareEvent, Path, impossible, total, play_start, events_from, path_event, phase_start, phase_half_moves, event_of, events}
use Rattle.pop_walk.specs.ties.Seen.{IsAtPathOf}
use Rattle.pop_events.specs.declared.event.Event.{Event}
use Rattle.pop_events.specs.declared.event.Phase.{Phase}
use Rattle.pop_events.specs.declared.event.Phase.TheVariants.{Play}
use Rattle.pop_walk.specs.declared.phases.Progress.{Progress}
use Rattle.pop_walk.specs.declared.phases.Progress.TheVariants.{Before, NotPossible, First, Within, After}
use Rattle.pop_walk.specs.declared.phases.Walk.{Walk}
use Rattle.pop_walk.specs.declared.mode.Mode.{Mode}
use Rattle.pop_walk.specs.ties.Modes.{goes_on, mode_of, walk_of}

module _ {M : Type 0} where
  -- the path begins a solution: it is a line, or a node with no node above it
  abbrev pub begins_solution : Bool → List M → Bool
  begins_solution help path = help || length path == 1

  -- the paths of the first n solutions; paths before the first beginning belong to a solution that began
  -- earlier
  unfoldable pub kept_paths : Bool → ℕ → List (List M) → List (List M)
  kept_paths help n [] = []
  kept_paths help zero (x ∷ xs) = if begins_solution help x then [] else x ∷ kept_paths help zero xs
  kept_paths help (suc n) (x ∷ xs) =
      x ∷ (if begins_solution help x then kept_paths help n xs else kept_paths help (suc n) xs)

  -- the number of solutions that begin in the paths, up to n
  unfoldable pub beginning_count : Bool → ℕ → List (List M) → ℕ
  beginning_count help n [] = 0
  beginning_count help zero (x ∷ xs) =
      if begins_solution help x then 0 else beginning_count help zero xs
  beginning_count help (suc n) (x ∷ xs) =
      if begins_solution help x then 1 + beginning_count help n xs
      else beginning_count help (suc n) xs

-- the paths to come from the frames of a phase
abbrev pub phase_paths : RuleSet → Posed → Phase → List Frame → List Path
phase_paths rule problem phase frames =
    to_come rule (mode_of problem) (phase_half_moves problem phase) (phase_start problem phase)
    frames

-- the events of some paths of a phase, after `count` solutions have begun, and then these events
abbrev pub events_along : Posed → Phase → ℕ → List Path → List BareEvent → List BareEvent
events_along problem phase count paths rest =
    let limit = problem.max_solutions - count in
    let all = count + beginning_count (is_help problem.stipulation.form) limit paths in
    map (path_event problem phase) (kept_paths (is_help problem.stipulation.form) limit paths)
    ++ total all (all == problem.max_solutions) ∷ rest

-- the events after a walk
abbrev pub events_after : RuleSet → Posed → Walk → List BareEvent
events_after rule problem walk = if goes_on walk then events_from rule problem Play else []

-- the events still to come
unfoldable pub left_of : RuleSet → Posed → Progress → List Frame → List BareEvent
left_of rule problem (Before phase) frames = events_from rule problem phase
left_of rule problem NotPossible frames = impossible ∷ events_from rule problem Play
left_of rule problem (First walk) frames =
    events_along problem walk.phase 0 (path frames ∷ phase_paths rule problem walk.phase frames)
    (events_after rule problem walk)
left_of rule problem (Within walk count) frames =
    events_along problem walk.phase count (phase_paths rule problem walk.phase frames)
    (events_after rule problem walk)
left_of rule problem After frames = []

-- what holds of board and frames when a search has come this far
unfoldable pub HoldsAtProgress : RuleSet → Posed → Progress → List Frame → Position → Type 0
HoldsAtProgress rule problem (Before phase) frames board =
    (frames ≡ []) × (board ≡ play_start problem)
HoldsAtProgress rule problem NotPossible frames board = (frames ≡ []) × (board ≡ play_start problem)
HoldsAtProgress rule problem (First walk) frames board =
    IsWalking rule (phase_half_moves problem walk.phase) (phase_start problem walk.phase) frames
    board
    × (walk ≡ walk_of problem walk.phase walk.scope) × (2 ≤ length frames)
    × IsEnded rule (mode_of problem) frames board
HoldsAtProgress rule problem (Within walk count) frames board =
    IsWalking rule (phase_half_moves problem walk.phase) (phase_start problem walk.phase) frames
    board
    × (count ≤ problem.max_solutions) × (walk ≡ walk_of problem walk.phase walk.scope)
HoldsAtProgress rule problem After frames board = (frames ≡ []) × (board ≡ play_start problem)

-- what the walk to the next path of a phase leaves, if at most `limit` solutions may still begin;
-- `given`: a next path exists and is emitted
pub record Walks (rule : RuleSet) (mode : Mode) (help : Bool) (h : ℕ) (p : Position) (limit : ℕ)
    (old new : List Frame) (board : Position) (given : Bool) : Type 0 where
  pub walking : IsWalking rule h p new board
  pub come : given ≡ true → kept_paths help limit (to_come rule mode h p old)
      ≡ path new ∷ kept_paths help
      (limit - (if begins_solution help (path new) then 1 else 0)) (to_come rule mode h p new)
  pub starts : given ≡ true → beginning_count help limit (to_come rule mode h p old)
      ≡ (if begins_solution help (path new) then 1 else 0)
      + beginning_count help
      (limit - (if begins_solution help (path new) then 1 else 0)) (to_come rule mode h p new)
  pub within : given ≡ true → (if begins_solution help (path new) then 1 else 0) ≤ limit
  pub deep : given ≡ true → 2 ≤ length new
  pub closed : given ≡ true → IsEnded rule mode new board
  pub ended : given ≡ false → kept_paths help limit (to_come rule mode h p old) ≡ []
  pub over : given ≡ false → (new ≡ []) ⊎ (limit ≡ 0)
  pub none : given ≡ false → beginning_count help limit (to_come rule mode h p old)
      ≡ 0

-- what a call returns: the first event still to come, as it is shown, with board and frames at its path
pub record Gives (rule : RuleSet) (problem : Posed) (old new : List BareEvent) (event : Event)
    (board : Position) (depth : ℕ) : Type 0 where
  pub bare : BareEvent
  pub left : old ≡ bare ∷ new
  pub event_is : event ≡ event_of rule problem bare
  pub stands : IsAtPathOf rule problem bare board depth

-- `given` counts the events returned so far, up to the greatest u64, and the events still to come are the
-- rest of all events
pub record IsCountedUpTo (rule : RuleSet) (problem : Posed) (left : List BareEvent)
    (given : ℕ) : Type 0 where
  pub within : length left ≤ length (events rule problem)
  pub ending : left ≡ drop (length (events rule problem) - length left) (events rule problem)
  pub counts : given ≡ min (length (events rule problem) - length left) (2 ^ 64 - 1)
