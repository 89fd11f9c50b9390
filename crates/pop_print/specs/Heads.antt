-- The text of a sound problem's head: all up to its stipulation (own layout; words of the Popeye manual).
use Rattle.std.specs.Prelude.{ℕ, ◌+◌, ◌*◌, List, [], ◌∷◌, ◌++◌, map, Bool, ◌||◌, if◌then◌else◌, Option, Some, None, codes, decimal}
use Rattle.std.specs.List.{flat_map}
use Rattle.chess_core.specs.Position.{man_on}
use Rattle.chess_core.specs.declared.man.Man.{Man}
use Rattle.chess_core.specs.declared.man.Colour.{Colour}
use Rattle.chess_core.specs.declared.man.Colour.TheVariants.{White, Black}
use Rattle.pop_input.specs.Posed.{Posed}
use Rattle.pop_stipulation.specs.declared.stipulation.Form.{Form}
use Rattle.pop_stipulation.specs.declared.stipulation.Form.TheVariants.{Direct, SelfMate, Help, HelpHalf}
use Rattle.pop_stipulation.specs.declared.stipulation.Goal.{Goal}
use Rattle.pop_stipulation.specs.declared.stipulation.Goal.TheVariants.{Mate, Stalemate}
use Rattle.pop_stipulation.specs.declared.stipulation.Stipulation.{Stipulation}
use Rattle.pop_input.specs.declared.condition.Condition.{Condition}
use Rattle.pop_input.specs.declared.condition.Condition.TheVariants.{Circe, Madrasi}
use Rattle.chess_core.specs.Letters.{digit_0, letter_of}
use Rattle.pop_input.specs.Letters.{point}
use Rattle.pop_print.specs.Notation.{blank, small_letter}

-- the letter of a man on the board: the capital one for White, the small one for Black
abbrev pub cell_by : Colour → ℕ → ℕ
cell_by White letter = letter
cell_by Black letter = small_letter letter

-- the text of a square: its man, or a point if it is empty
abbrev pub cell_of : Option Man → ℕ
cell_of None = point
cell_of (Some man) = cell_by man.colour (letter_of man.kind)

-- the text of a rank, counted from 0: its digit, a blank, its eight squares
unfoldable pub rank_text : List (Option Man) → ℕ → List ℕ
rank_text men rank =
    (digit_0 + 1 + rank) ∷ blank ∷ map (λ file. cell_of (man_on men (8 * rank + file)))
    (0 ∷ 1 ∷ 2 ∷ 3 ∷ 4 ∷ 5 ∷ 6 ∷ 7 ∷ []) ++ codes "\n"

-- the text of the board: rank 8 first, then the line of the files
abbrev pub board_text : List (Option Man) → List ℕ
board_text men = flat_map (rank_text men) (7 ∷ 6 ∷ 5 ∷ 4 ∷ 3 ∷ 2 ∷ 1 ∷ 0 ∷ [])
    ++ codes "  abcdefgh\n"

-- the text of a title or an author, after its label, or no text if it is empty
abbrev pub labelled_text : List ℕ → List ℕ → List ℕ
labelled_text label [] = []
labelled_text label (byte ∷ text) = label ++ (byte ∷ text) ++ codes "\n"

-- what comes before the goal's sign in the word of a stipulation
abbrev pub form_text : Form → List ℕ
form_text Direct = []
form_text SelfMate = codes "s"
form_text Help = codes "h"
form_text HelpHalf = codes "h"

-- what comes after the number of moves in the word of a stipulation
abbrev pub half_text : Form → List ℕ
half_text Direct = []
half_text SelfMate = []
half_text Help = []
half_text HelpHalf = codes ".5"

-- the goal's sign
abbrev pub goal_text : Goal → List ℕ
goal_text Mate = codes "#"
goal_text Stalemate = codes "="

-- the word of a stipulation
abbrev pub stipulation_text : Stipulation → List ℕ
stipulation_text stipulation =
    form_text stipulation.form ++ goal_text stipulation.goal ++ decimal stipulation.n
    ++ half_text stipulation.form

-- a blank and the word of the condition, or no text without a condition
abbrev pub condition_text : Option Condition → List ℕ
condition_text None = []
condition_text (Some Circe) = codes " Circe"
condition_text (Some Madrasi) = codes " Madrasi"

-- the first line of an item
unfoldable pub item_line : ℕ → List ℕ
item_line number = codes "problem " ++ decimal number ++ codes "\n"

-- the lines of the title and the author
unfoldable pub names_text : Posed → List ℕ
names_text posed = labelled_text (codes "title: ") posed.title
    ++ labelled_text (codes "author: ") posed.author

-- the line of the stipulation and the condition
unfoldable pub stipulation_line : Posed → List ℕ
stipulation_line posed = stipulation_text posed.stipulation ++ condition_text posed.condition
    ++ codes "\n"

-- the text of a sound item's head, with the board unless the problem or the settings leave it out
unfoldable pub head_text : ℕ → Posed → Bool → List ℕ
head_text number posed no_board =
    item_line number ++ names_text posed
    ++ (if no_board || posed.no_board then [] else board_text posed.diagram.men)
    ++ stipulation_line posed

-- the text of a sound item that is only tested: its head, the line `sound`, an empty line
abbrev pub checked_text : ℕ → Posed → Bool → List ℕ
checked_text number posed no_board = head_text number posed no_board ++ codes "sound\n"
    ++ codes "\n"
