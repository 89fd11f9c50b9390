-- What contracts see of a search: the events still to come, the board, the frames in use, and the counts
-- (own).
use Rattle.chess_rules.specs.Play.{position_after}
use Rattle.std.specs.Prelude.{◌≡◌, ℕ, ◌+◌, List, length}
use Rattle.chess_core.specs.Position.{Position}
use Rattle.chess_attacks.specs.RuleSet.{RuleSet}
use Rattle.pop_battle.specs.Game.{path_end}
use Rattle.pop_input.specs.Posed.{Posed}
use Rattle.pop_walk.specs.Events.{BareEvent, impossible, line, opening, phase_start, total, tree_node}

-- after a line or node the board has the position to which its path leads, and there is one frame more than
-- the path has moves
abbrev pub IsAtPathOf : RuleSet → Posed → BareEvent → Position → ℕ → Type 0
IsAtPathOf rule problem (opening phase) board depth = Unit {0}
IsAtPathOf rule problem impossible board depth = Unit {0}
IsAtPathOf rule problem (line phase path) board
    depth = (board ≡ path_end (position_after rule) (phase_start problem phase) path)
    × (depth ≡ length path + 1)
IsAtPathOf rule problem (tree_node phase path) board
    depth = (board ≡ path_end (position_after rule) (phase_start problem phase) path)
    × (depth ≡ length path + 1)
IsAtPathOf rule problem (total count stopped) board depth = Unit {0}

-- what contracts see of a search
pub record Seen : Type 0 where
  pub problem : Posed
  -- the events still to come
  pub left : List BareEvent
  -- the position on the board, and the frames in use
  pub board : Position
  pub depth : ℕ
  -- the events returned and the positions tried so far, each up to the greatest u64
  pub given : ℕ
  pub opened : ℕ
