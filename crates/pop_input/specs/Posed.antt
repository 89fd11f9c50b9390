-- A problem as posed.
use Rattle.std.specs.Prelude.{◌≡◌, ◌≤◌, ℕ, Bool, true, false, List, Option, Some, None}
use Rattle.chess_core.specs.Diagrams.{Diagram, position_of}
use Rattle.chess_core.specs.Position.{other}
use Rattle.chess_core.specs.WellFormed.{IsWellFormed}
use Rattle.chess_attacks.specs.Attacks.{in_check}
use Rattle.chess_attacks.specs.RuleSet.{RuleSet, orthodox, circe, madrasi}
use Rattle.pop_stipulation.specs.Stipulations.{starting_side, has_king_to_mate, is_in_range}
use Rattle.pop_input.specs.declared.condition.Condition.{Condition}
use Rattle.pop_input.specs.declared.condition.Condition.TheVariants.{Circe, Madrasi}
use Rattle.pop_stipulation.specs.declared.stipulation.Stipulation.{Stipulation}

-- all that a problem states
pub record Posed : Type 0 where
  pub diagram : Diagram
  pub stipulation : Stipulation
  pub condition : Option Condition
  pub set_play : Bool
  pub variation : Bool
  pub no_board : Bool
  pub max_solutions : ℕ
  pub title : List ℕ
  pub author : List ℕ

-- the rules of a condition, or of chess without one
abbrev pub rule_of : Option Condition → RuleSet
rule_of None = orthodox
rule_of (Some Circe) = circe
rule_of (Some Madrasi) = madrasi

-- What holds of every sound problem: its position is well formed; the side to move and the number of moves fit the
-- stipulation; its limit of solutions is from 1 to 4,000,000,000 (own); the side to be mated has a king; and the side
-- that isn't to move isn't in check (FIDE Laws 3.9), under the problem's condition.
pub record IsSound (posed : Posed) : Type 0 where
  pub well_formed : IsWellFormed (position_of posed.diagram)
  pub turn : posed.diagram.turn ≡ starting_side posed.stipulation.form
  pub range : is_in_range posed.stipulation ≡ true
  pub some_solution : 1 ≤ posed.max_solutions
  pub limit : posed.max_solutions ≤ 4000000000
  pub king : has_king_to_mate posed.stipulation posed.diagram.men ≡ true
  pub quiet : in_check (rule_of posed.condition) posed.diagram.men (other posed.diagram.turn)
      ≡ false
