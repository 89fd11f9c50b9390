-- The parts of a phase: its solutions divided by their first moves, so that each part can be searched by
-- itself, on any machine (own).
use Rattle.std.specs.Prelude.{ℕ, zero, suc, ◌-◌, ◌==◌, min, Bool, true, false, ◌&&◌, ◌||◌, if◌then◌else◌, List, [], ◌∷◌, ◌++◌, map, take, filter, length, Option, None, slice_get}
use Rattle.std.specs.List.{flat_map}
use Rattle.chess_core.specs.Move.{same_move}
use Rattle.chess_attacks.specs.RuleSet.{RuleSet}
use Rattle.pop_input.specs.Posed.{Posed}
use Rattle.pop_stipulation.specs.Stipulations.{is_help}
use Rattle.pop_battle.specs.Chess.{chess}
use Rattle.pop_walk.specs.Events.{BareEvent, Path, Solution, is_impossible_phase, path_event, phase_half_moves, phase_start, solutions, total}
use Rattle.pop_battle.specs.Game.{Game}
use Rattle.pop_events.specs.declared.event.Phase.{Phase}

module _ {P M : Type 0} where
  -- all lists of d moves from p, each legal when it is played, in the order of moves
  unfoldable pub beginnings : Game P M → ℕ → P → List (List M)
  beginnings game zero p = [] ∷ []
  beginnings game (suc d) p =
      flat_map (λ m. map (λ rest. m ∷ rest) (beginnings game d (game.after p m))) (game.moves p)

-- the number of moves that distinguish the parts of a phase: one in battle play; in help play `depth`, but
-- at most the half-moves of the phase
abbrev pub part_depth : Posed → Phase → ℕ → ℕ
part_depth problem phase depth =
    if is_help problem.stipulation.form then min depth (phase_half_moves problem phase) else 1

-- the parts of a phase, each given by its first moves, in the order of moves; none if the phase isn't
-- possible or has no half-move
unfoldable pub parts : RuleSet → Posed → Phase → ℕ → List Path
parts rule problem phase depth =
    if is_impossible_phase rule problem phase || (phase_half_moves problem phase == 0) then []
    else beginnings (chess problem.stipulation.goal rule) (part_depth problem phase depth)
    (phase_start problem phase)

-- the part with a number, counted from 1
abbrev pub part_numbered : RuleSet → Posed → Phase → ℕ → ℕ → Option Path
part_numbered rule problem phase depth number =
    if number == 0 then None else slice_get (parts rule problem phase depth) (number - 1)

-- the path begins with these moves
unfoldable pub begins_path : Path → Path → Bool
begins_path [] path = true
begins_path (m ∷ beginning) [] = false
begins_path (m ∷ beginning) (n ∷ path) = same_move m n && begins_path beginning path

-- the solution's first path begins with these moves
abbrev pub begins_so : Path → Solution → Bool
begins_so beginning [] = false
begins_so beginning (path ∷ paths) = begins_path beginning path

-- the solutions of a part: the solutions of its phase that begin with its first moves
unfoldable pub part_solutions : RuleSet → Posed → Phase → Path → List Solution
part_solutions rule problem phase beginning =
    filter (begins_so beginning) (solutions rule problem phase)

-- the number of a part's solutions, up to the limit
abbrev pub part_count : RuleSet → Posed → Phase → Path → ℕ
part_count rule problem phase beginning =
    length (take problem.max_solutions (part_solutions rule problem phase beginning))

-- the events of a part: its first solutions, whole, and their number
unfoldable pub part_events : RuleSet → Posed → Phase → Path → List BareEvent
part_events rule problem phase beginning =
    map (path_event problem phase) (flat_map (λ solution. solution)
    (take problem.max_solutions (part_solutions rule problem phase beginning)))
    ++ total (part_count rule problem phase beginning)
    (part_count rule problem phase beginning == problem.max_solutions) ∷ []
