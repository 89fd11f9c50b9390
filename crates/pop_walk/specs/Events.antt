-- The events of a problem: its phases, their solutions and their totals. Set play, the limit of solutions
-- and the order of events are own; half-moves are numbered as in the Popeye manual.
use Rattle.pop_stipulation.specs.Stipulations.{battle_of, first_half, half_moves, is_help}
use Rattle.pop_stipulation.specs.declared.stipulation.Battle.{Battle}
use Rattle.pop_stipulation.specs.declared.stipulation.Goal.{Goal}
use Rattle.chess_rules.specs.Play.{position_after}
use Rattle.std.specs.Prelude.{ℕ, ◌+◌, ◌-◌, ◌==◌, Bool, true, false, ◌&&◌, if◌then◌else◌, List, [], ◌∷◌, ◌++◌, map, take, length, None, Option, Some}
use Rattle.std.specs.List.{flat_map}
use Rattle.chess_core.specs.Diagrams.{position_of}
use Rattle.chess_core.specs.Position.{Position}
use Rattle.chess_core.specs.declared.man.Move.{Move}
use Rattle.chess_attacks.specs.RuleSet.{RuleSet}
use Rattle.pop_battle.specs.Game.{Game, help_lines}
use Rattle.pop_walk.specs.Tree.{tree, set_tree}
use Rattle.pop_input.specs.Posed.{Posed, rule_of}
use Rattle.pop_battle.specs.Chess.{chess, is_impossible, set_start}
pub use Rattle.pop_events.specs.Shown.{Shown, mark_of, no_move_shown, shown_move}
pub use Rattle.pop_events.specs.declared.event.Event.{Event}
use Rattle.pop_events.specs.declared.event.Event.TheVariants.{Phase as PhaseEvent, Line, Node, Impossible, Total}
pub use Rattle.pop_events.specs.declared.event.Phase.{Phase}
pub use Rattle.pop_events.specs.declared.shown.Mark.{Mark}
pub use Rattle.pop_events.specs.declared.shown.Side.{Side}
use Rattle.pop_events.specs.declared.event.Phase.TheVariants.{Set, Play}

-- moves one after another: a line, or the moves that lead to a node of a tree
abbrev pub Path : Type 0
Path = List Move

-- a line, or a node with all nodes below it
abbrev pub Solution : Type 0
Solution = List Path

-- an event before it is shown: it has a path and its phase where the shown event has moves
pub data BareEvent : Type 0 where
  opening : Phase → BareEvent
  impossible : BareEvent
  line : Phase → Path → BareEvent
  tree_node : Phase → Path → BareEvent
  total : ℕ → Bool → BareEvent

-- the phase is set play
abbrev pub is_set : Phase → Bool
is_set Set = true
is_set Play = false

-- the phase with which a problem begins
abbrev pub first_phase : Posed → Phase
first_phase problem = if problem.set_play then Set else Play

-- the first position of the play
abbrev pub play_start : Posed → Position
play_start problem = position_of problem.diagram

-- the first position of a phase
abbrev pub phase_start : Posed → Phase → Position
phase_start problem phase =
    if is_set phase then set_start (play_start problem) else play_start problem

-- the number of half-moves in a phase: set play drops the first one
abbrev pub phase_half_moves : Posed → Phase → ℕ
phase_half_moves problem phase = if is_set phase then half_moves problem.stipulation - 1
    else half_moves problem.stipulation

-- the game of a problem
abbrev pub game_of : RuleSet → Posed → Game Position Move
game_of rule problem = chess problem.stipulation.goal rule

-- the solutions of a phase: its lines in help play, its tree in a battle
abbrev pub solutions_by : Option Battle → RuleSet → Posed → Phase → List Solution
solutions_by None rule problem phase =
    map (λ path. path ∷ []) (help_lines (game_of rule problem) (phase_half_moves problem phase)
    (phase_start problem phase))
solutions_by (Some battle) rule problem Set =
    set_tree battle (game_of rule problem) problem.variation problem.stipulation.n
    (phase_half_moves problem Set) (phase_start problem Set)
solutions_by (Some battle) rule problem Play =
    tree battle (game_of rule problem) problem.variation problem.stipulation.n
    (phase_half_moves problem Play) (phase_start problem Play)

-- the solutions of a phase, by the problem's form
unfoldable pub solutions : RuleSet → Posed → Phase → List Solution
solutions rule problem phase =
    solutions_by (battle_of problem.stipulation.form) rule problem phase

-- the phase is set play, and its first position is impossible
abbrev pub is_impossible_phase : RuleSet → Posed → Phase → Bool
is_impossible_phase rule problem phase = is_set phase
    && is_impossible rule (set_start (play_start problem))

-- the event of a path
abbrev pub path_event : Posed → Phase → Path → BareEvent
path_event problem phase path = if is_help problem.stipulation.form then line phase path
    else tree_node phase path

-- the number of a phase's solutions, up to the limit
abbrev pub phase_count : RuleSet → Posed → Phase → ℕ
phase_count rule problem phase = length (take problem.max_solutions (solutions rule problem phase))

-- the events of a phase: its name; then either that it is impossible, or its first solutions, whole, and
-- their number
unfoldable pub phase_events : RuleSet → Posed → Phase → List BareEvent
phase_events rule problem phase =
    opening phase ∷ (if is_impossible_phase rule problem phase then impossible ∷ []
    else map (path_event problem phase) (flat_map (λ solution. solution)
    (take problem.max_solutions (solutions rule problem phase)))
    ++ total (phase_count rule problem phase)
    (phase_count rule problem phase == problem.max_solutions)
    ∷ [])

-- the events from a phase on
abbrev pub events_from : RuleSet → Posed → Phase → List BareEvent
events_from rule problem phase =
    if is_set phase then phase_events rule problem Set ++ phase_events rule problem Play
    else phase_events rule problem Play

-- all events of a problem
abbrev pub events : RuleSet → Posed → List BareEvent
events rule problem = events_from rule problem (first_phase problem)

-- the moves of a path from p, as they are shown
abbrev pub moves_shown : Goal → RuleSet → Position → Path → List Shown
moves_shown goal rule p [] = []
moves_shown goal rule p (m ∷ path) = shown_move goal rule p m
    ∷ moves_shown goal rule (position_after rule p m) path

-- the last move of a path from p, as it is shown
abbrev pub last_shown : Goal → RuleSet → Position → Path → Shown
last_shown goal rule p [] = no_move_shown
last_shown goal rule p (m ∷ []) = shown_move goal rule p m
last_shown goal rule p (m ∷ (n ∷ path)) = last_shown goal rule (position_after rule p m) (n ∷ path)

-- the number of a phase's first half-move
abbrev pub phase_half : Posed → Phase → ℕ
phase_half problem phase = if is_set phase then first_half problem.stipulation.form + 1
    else first_half problem.stipulation.form

-- an event as it is shown
abbrev pub event_of : RuleSet → Posed → BareEvent → Event
event_of rule problem (opening phase) = PhaseEvent phase
event_of rule problem impossible = Impossible
event_of rule problem (line phase path) =
    Line (phase_half problem phase) (record {
      items = moves_shown problem.stipulation.goal rule
          (phase_start problem phase) path;
    })
event_of rule problem (tree_node phase path) =
    Node (length path - 1) (phase_half problem phase + (length path - 1))
    (last_shown problem.stipulation.goal rule (phase_start problem phase) path)
event_of rule problem (total count stopped) = Total count stopped

-- all events of a problem, under its own condition
unfoldable pub events_of : Posed → List Event
events_of problem = map (event_of (rule_of problem.condition) problem)
    (events (rule_of problem.condition) problem)
