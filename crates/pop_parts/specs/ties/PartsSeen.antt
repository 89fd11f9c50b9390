-- What contracts see of a search of one part and of the parts still to come, and how many positions a
-- part's walk has (own).
use Rattle.std.specs.Prelude.{◌≡◌, ℕ, ◌-◌, Bool, true, false, ◌&&◌, List, [], ◌∷◌, length}
use Rattle.chess_core.specs.Position.{Position}
use Rattle.chess_rules.specs.Legal.{is_legal, moves as legal_moves}
use Rattle.chess_rules.specs.Play.{position_after}
use Rattle.chess_attacks.specs.RuleSet.{RuleSet}
use Rattle.pop_input.specs.Posed.{Posed}
use Rattle.pop_stipulation.specs.Stipulations.{is_help}
use Rattle.pop_walk.specs.Events.{BareEvent, Path, phase_half_moves, phase_start}
use Rattle.pop_walk.specs.declared.phases.Progress.{Progress}
use Rattle.pop_walk.specs.ties.Counts.{Counts, exactly, least_if, untried_at}
use Rattle.pop_battle.specs.ties.Frames.{Frame}
use Rattle.pop_battle.specs.Game.{path_end}
use Rattle.pop_events.specs.declared.event.Phase.{Phase}
use Rattle.pop_battle.specs.declared.killers.Killers.{Killers}
use Rattle.pop_battle.specs.Walks.{walk_count}

-- what contracts see of a search of a part: the problem, the phase, the part's first moves, the events
-- still to come, the position on the board, the frames in use, the positions tried so far, up to the
-- greatest u64, and the moves that last decided tests
pub record PartSeen : Type 0 where
  pub problem : Posed
  pub phase : Phase
  pub beginning : Path
  pub left : List BareEvent
  pub board : Position
  pub depth : ℕ
  pub opened : ℕ
  pub killers : Killers

-- what contracts see of the parts still to come: the problem, the phase, and the first moves of each part
pub record RemainingSeen : Type 0 where
  pub problem : Posed
  pub phase : Phase
  pub left : List Path

-- the walk count of a part: the number of lists of moves after its first moves that are shorter than the
-- half-moves left, each move legal when it is played
abbrev pub part_walk : RuleSet → Posed → Phase → Path → ℕ
part_walk rule problem phase front =
    walk_count (legal_moves rule) (position_after rule)
    (phase_half_moves problem phase - length front)
    (path_end (position_after rule) (phase_start problem phase) front)

-- in help play at most the positions of the part's walk that aren't still to be tried have counted
abbrev pub IsPartOpened : RuleSet → Posed → Phase → Path → Progress → List Frame → ℕ → Type 0
IsPartOpened rule problem phase front progress frames opened =
    is_help problem.stipulation.form ≡ true
    → Counts (least_if false (exactly (part_walk rule problem phase front)))
    (untried_at rule problem progress frames) 0 opened

-- each of the moves, played from p on, is legal
unfoldable pub are_legal : RuleSet → Position → Path → Bool
are_legal rule p [] = true
are_legal rule p (m ∷ ms) = is_legal rule p m && are_legal rule (position_after rule p m) ms
