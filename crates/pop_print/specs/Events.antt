-- The text of a solution's events (own layout).
use Rattle.std.specs.Prelude.{ℕ, ◌+◌, ◌*◌, ◌/◌, ◌%◌, ◌==◌, List, [], ◌∷◌, ◌++◌, Bool, true, false, if◌then◌else◌, codes, decimal, replicate}
use Rattle.pop_events.specs.Shown.{Shown}
use Rattle.pop_events.specs.declared.event.Phase.{Phase as PhaseOf}
use Rattle.pop_events.specs.declared.event.Phase.TheVariants.{Set, Play}
use Rattle.pop_events.specs.declared.event.Event.{Event}
use Rattle.pop_events.specs.declared.event.Event.TheVariants.{Phase, Line, Node, Impossible, Total}
use Rattle.pop_print.specs.Moves.{move_text}
use Rattle.pop_print.specs.Notation.{blank}

-- the number of a half-move: White's half-moves are odd and have one point, Black's are even and have three
abbrev pub prefix_text : ℕ → List ℕ
prefix_text half = if half % 2 == 1 then decimal ((half + 1) / 2) ++ codes "."
    else decimal (half / 2) ++ codes "..."

-- what comes before a move of a line: a number before the first move and before each White move, a blank between moves
abbrev pub move_number_text : Bool → ℕ → List ℕ
move_number_text true half = prefix_text half
move_number_text false half = codes " " ++ (if half % 2 == 1 then prefix_text half else [])

-- the text of moves from a half-move on, with the first move of the line or without it
abbrev pub moves_text : Bool → ℕ → List Shown → List ℕ
moves_text first half [] = []
moves_text first half (shown ∷ moves) = move_number_text first half ++ move_text shown
    ++ moves_text false (half + 1) moves

-- the text of a line of help play
abbrev pub line_text : ℕ → List Shown → List ℕ
line_text half moves = moves_text true half moves ++ codes "\n"

-- the text of a node of battle play: two blanks for each node above it
abbrev pub node_text : ℕ → ℕ → Shown → List ℕ
node_text depth half shown = replicate (2 * depth) blank ++ prefix_text half ++ move_text shown
    ++ codes "\n"

-- the line that opens a phase
abbrev pub phase_text : PhaseOf → List ℕ
phase_text Set = codes "set\n"
phase_text Play = codes "play\n"

-- what comes after the count: that the limit ended the phase, or nothing
abbrev pub stopped_text : Bool → List ℕ
stopped_text true = codes ", stopped\n"
stopped_text false = codes "\n"

-- the text of the count at the end of a phase
abbrev pub total_text : ℕ → Bool → List ℕ
total_text count stopped = codes "solutions: " ++ decimal count ++ stopped_text stopped

-- the text of an event: whole lines
unfoldable pub event_text : Event → List ℕ
event_text (Phase phase) = phase_text phase
event_text (Line half moves) = line_text half moves.items
event_text (Node depth half shown) = node_text depth half shown
event_text Impossible = codes "not possible\n"
event_text (Total count stopped) = total_text count stopped
