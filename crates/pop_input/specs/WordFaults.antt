-- The fault of a word, by what the words before it say (own).
use Rattle.pop_input.specs.declared.fault_kind.FaultKind.{FaultKind}
use Rattle.pop_input.specs.declared.fault_kind.FaultKind.TheVariants.{BeginProblemMissing, WordMisplaced, WordTooLong, ColourMissing, SquareTaken, PawnOnOuterRank, SecondKing, BadStipulation, SecondStipulation, SecondCondition, BadLimit, SquareMissing, NoneCastlesThere}
use Rattle.std.specs.Prelude.{ℕ, List, [], ◌∷◌, length, nat_le, nat_lt, not, ◌&&◌, ◌||◌, Bool, if◌then◌else◌, Option, Some, None, is_some}
use Rattle.std.specs.Prelude.{◌==◌}
use Rattle.std.specs.List.{list_any, list_all}
use Rattle.chess_core.specs.Castling.{is_castling_square}
use Rattle.chess_core.specs.Diagrams.{has_man}
use Rattle.chess_core.specs.Position.{man_on, same_kind, with_man}
use Rattle.chess_core.specs.WellFormed.{is_pawn_inside}
use Rattle.chess_core.specs.declared.man.Colour.{Colour}
use Rattle.chess_core.specs.declared.man.Kind.{Kind}
use Rattle.chess_core.specs.declared.man.Kind.TheVariants.{King}
use Rattle.chess_core.specs.declared.man.Man.{Man}
use Rattle.pop_text.specs.Words.{longest_word}
use Rattle.pop_input.specs.Letters.{mate_sign, stalemate_sign}
use Rattle.chess_core.specs.KindNames.{kind_of}
use Rattle.pop_input.specs.Names.{command_of, colour_of, condition_of, option_of, or_else}
use Rattle.pop_input.specs.Values.{squares_named, only_square, is_digit, limit_of, stipulation_of}
use Rattle.pop_input.specs.Drafts.{Draft, Role, Limit, EnPassantSquare, ForbiddenSquares, Control, Within, role_of}
use Rattle.pop_input.specs.declared.condition.Condition.{Condition}
use Rattle.pop_input.specs.declared.names.Section.{Section}
use Rattle.pop_input.specs.declared.names.Section.TheVariants.{Pieces, Stipulation as Stipulations, Condition as Conditions, Options}
use Rattle.pop_input.specs.declared.names.Command.{Command}
use Rattle.pop_input.specs.declared.names.Command.TheVariants.{Begin, Enter, Next, Last}
use Rattle.pop_stipulation.specs.declared.stipulation.Stipulation.{Stipulation}

-- this fault if the condition is true, else none
abbrev pub fault_if : Bool → FaultKind → Option FaultKind
fault_if holds kind = if holds then Some kind else None

-- the fault of a word after NoCastling: no squares, or a square that isn't a castling square
abbrev pub forbidden_fault : Option (List ℕ) → Option FaultKind
forbidden_fault None = Some SquareMissing
forbidden_fault (Some squares) = fault_if (not (list_all is_castling_square squares)) NoneCastlesThere

-- the fault of a command in a problem: BeginProblem comes only before the first problem
abbrev pub control_fault : Command → Option FaultKind
control_fault Begin = Some WordMisplaced
control_fault (Enter section) = None
control_fault Next = None
control_fault Last = None

-- the fault of a man on a square: the square is occupied, a pawn on rank 1 or 8, a second king of its colour
abbrev pub man_fault : List (Option Man) → Man → ℕ → Option FaultKind
man_fault men man square =
    if is_some (man_on men square) then Some SquareTaken
    else (if not (is_pawn_inside (Some man) square) then Some PawnOnOuterRank
    else fault_if (same_kind man.kind King && has_man men man.colour King) SecondKing)

-- the first fault of putting a man on each of the squares in turn
abbrev pub men_fault : List (Option Man) → Man → List ℕ → Option FaultKind
men_fault men man [] = None
men_fault men man (square ∷ squares) = or_else (man_fault men man square)
    (men_fault (with_man men square man) man squares)

-- the fault of men of a kind: no colour yet, no squares, or a fault of a man
abbrev pub put_fault : List (Option Man) → Option Colour → Kind → Option (List ℕ) → Option FaultKind
put_fault men None man_kind squares = Some ColourMissing
put_fault men (Some colour) man_kind None = Some SquareMissing
put_fault men (Some colour) man_kind (Some squares) = men_fault men
    (record { colour = colour; kind = man_kind }) squares

-- whether a text has two bytes or more and no digit: then its word isn't a letter and squares at all
abbrev pub is_other_word : List ℕ → Bool
is_other_word text = nat_le 2 (length text) && not (list_any is_digit text)

-- the fault of a word in Pieces that begins with a letter of this kind
abbrev pub letter_fault : Draft → Option Kind → List ℕ → Option FaultKind
letter_fault draft None text = Some WordMisplaced
letter_fault draft (Some letter) text =
    if not (is_some (squares_named text)) && is_other_word text then Some WordMisplaced
    else put_fault draft.men draft.colour letter (squares_named text)

-- the fault of a word in Pieces: a colour, or a letter and squares
abbrev pub pieces_fault : Draft → List ℕ → Option FaultKind
pieces_fault draft [] = None
pieces_fault draft (letter ∷ text) = if is_some (colour_of (letter ∷ text)) then None
    else letter_fault draft (kind_of letter) text

-- the fault of a word in Stipulation: after the first stipulation, a word with `#` or `=` is a second one
abbrev pub stipulation_fault : Option Stipulation → List ℕ → Option FaultKind
stipulation_fault None text = fault_if (not (is_some (stipulation_of text))) BadStipulation
stipulation_fault (Some given) text =
    if list_any (λ b. b == mate_sign) text
    || list_any (λ b. b == stalemate_sign) text then Some SecondStipulation
    else Some WordMisplaced

-- the fault of a word in Condition: no condition, or a second one
abbrev pub condition_fault : Option Condition → List ℕ → Option FaultKind
condition_fault given text = if not (is_some (condition_of text)) then Some WordMisplaced
    else fault_if (is_some given) SecondCondition

-- the fault of a word in a section
abbrev pub section_fault : Draft → Option Section → List ℕ → Option FaultKind
section_fault draft None text = Some WordMisplaced
section_fault draft (Some Pieces) text = pieces_fault draft text
section_fault draft (Some Stipulations) text = stipulation_fault draft.stipulation text
section_fault draft (Some Conditions) text = condition_fault draft.condition text
section_fault draft (Some Options) text = fault_if (not (is_some (option_of text))) WordMisplaced

-- the fault of a word that has this role
abbrev pub role_fault : Draft → Role → List ℕ → Option FaultKind
role_fault draft Limit text = fault_if (not (is_some (limit_of text))) BadLimit
role_fault draft EnPassantSquare text = fault_if (not (is_some (only_square (squares_named text))))
    SquareMissing
role_fault draft ForbiddenSquares text = forbidden_fault (squares_named text)
role_fault draft (Control command) text = control_fault command
role_fault draft (Within section) text = section_fault draft section text

-- the fault of a word of at most `longest_word` bytes in a problem
abbrev pub fault_in : Draft → List ℕ → Option FaultKind
fault_in draft text = role_fault draft (role_of draft.context text) text

-- the fault of the first word of the input, which must be BeginProblem
abbrev pub begin_fault : Option Command → Option FaultKind
begin_fault (Some Begin) = None
begin_fault (Some (Enter section)) = Some BeginProblemMissing
begin_fault (Some Next) = Some BeginProblemMissing
begin_fault (Some Last) = Some BeginProblemMissing
begin_fault None = Some BeginProblemMissing

-- the fault of a word, in a problem that has begun or before the first problem
abbrev pub fault_of : Bool → Draft → List ℕ → Option FaultKind
fault_of begun draft text =
    if nat_lt longest_word (length text) then Some WordTooLong
    else (if begun then fault_in draft text else begin_fault (command_of text))
