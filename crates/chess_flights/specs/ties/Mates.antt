-- Moves that mate (own).
use Rattle.std.specs.Prelude.{ℕ, Bool, not, ◌&&◌, List}
use Rattle.chess_core.specs.Position.{Position}
use Rattle.chess_core.specs.declared.man.Move.{Move}
use Rattle.chess_attacks.specs.RuleSet.{RuleSet}
use Rattle.chess_rules.specs.Legal.{is_legal, is_mate, is_nil}
use Rattle.chess_rules.specs.Play.{position_after}
use Rattle.chess_rules.specs.ties.Places.{met_after}

-- the move mates
abbrev pub is_mating : RuleSet → Position → Move → Bool
is_mating rule p m = is_mate rule (position_after rule p m)

-- the move is legal, and the side then to move is mated
unfoldable pub mates : RuleSet → Position → Move → Bool
mates rule p m = is_legal rule p m && is_mate rule (position_after rule p m)

-- the mating moves after a cursor
abbrev pub mates_after : RuleSet → Position → ℕ → List Move
mates_after rule p place = met_after (mates rule p) place

-- some reply to the move mates
abbrev pub allows_mate : RuleSet → Position → Move → Bool
allows_mate rule p m = not (is_nil (mates_after rule (position_after rule p m) 0))
