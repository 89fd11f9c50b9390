-- What stipulations say (Codex; Popeye manual; the range of n is own).
use Rattle.std.specs.Prelude.{ℕ, ◌+◌, ◌-◌, ◌*◌, nat_le, Bool, true, false, ◌&&◌, ◌||◌, List, Option, Some, None, is_some, is_none}
use Rattle.chess_core.specs.Position.{king_square}
use Rattle.chess_core.specs.declared.man.Man.{Man}
use Rattle.chess_core.specs.declared.man.Colour.{Colour}
use Rattle.chess_core.specs.declared.man.Colour.TheVariants.{White, Black}
use Rattle.pop_stipulation.specs.declared.stipulation.Battle.{Battle}
use Rattle.pop_stipulation.specs.declared.stipulation.Battle.TheVariants.{Direct as DirectBattle, SelfMate as SelfMateBattle}
use Rattle.pop_stipulation.specs.declared.stipulation.Form.{Form}
use Rattle.pop_stipulation.specs.declared.stipulation.Form.TheVariants.{Direct, SelfMate, Help, HelpHalf}
use Rattle.pop_stipulation.specs.declared.stipulation.Goal.{Goal}
use Rattle.pop_stipulation.specs.declared.stipulation.Goal.TheVariants.{Mate, Stalemate}
use Rattle.pop_stipulation.specs.declared.stipulation.Stipulation.{Stipulation}

-- the battle of a form, in which White pursues an aim against every defence; in help play both sides help
abbrev pub battle_of : Form → Option Battle
battle_of Direct = Some DirectBattle
battle_of SelfMate = Some SelfMateBattle
battle_of Help = None
battle_of HelpHalf = None

-- whether both sides help: the form has no battle
abbrev pub is_help : Form → Bool
is_help form = is_none (battle_of form)

-- the side that makes the first half-move of the play
abbrev pub starting_side : Form → Colour
starting_side Direct = White
starting_side SelfMate = White
starting_side Help = Black
starting_side HelpHalf = White

-- the side that is mated or stalemated
abbrev pub goal_side : Form → Colour
goal_side Direct = Black
goal_side SelfMate = White
goal_side Help = Black
goal_side HelpHalf = Black

-- the number of the play's first half-move: 2 if Black's half of the first move is left out
abbrev pub first_half : Form → ℕ
first_half Direct = 1
first_half SelfMate = 1
first_half Help = 1
first_half HelpHalf = 2

-- the number of half-moves of a form with `n` moves
abbrev pub half_moves_of : Form → ℕ → ℕ
half_moves_of Direct n = 2 * n - 1
half_moves_of SelfMate n = 2 * n
half_moves_of Help n = 2 * n
half_moves_of HelpHalf n = 2 * n + 1

-- the number of half-moves of a stipulation
abbrev pub half_moves : Stipulation → ℕ
half_moves stipulation = half_moves_of stipulation.form stipulation.n

-- whether the goal is stalemate
abbrev pub is_for_stalemate : Goal → Bool
is_for_stalemate Mate = false
is_for_stalemate Stalemate = true

-- whether the king to be mated is among these men; stalemate needs no king
abbrev pub has_king_to_mate : Stipulation → List (Option Man) → Bool
has_king_to_mate stipulation men = is_for_stalemate stipulation.goal
    || is_some (king_square men (goal_side stipulation.form))

-- the greatest number of moves of a stipulation
abbrev pub most_moves : ℕ
most_moves = 16

-- whether a form may have `n` moves
abbrev pub may_have : Form → ℕ → Bool
may_have Direct n = nat_le 1 n && nat_le n most_moves
may_have SelfMate n = nat_le 1 n && nat_le n most_moves
may_have Help n = nat_le 1 n && nat_le n most_moves
may_have HelpHalf n = nat_le (n + 1) most_moves

-- whether the number of moves is in the range of the form
abbrev pub is_in_range : Stipulation → Bool
is_in_range stipulation = may_have stipulation.form stipulation.n
