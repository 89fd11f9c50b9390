-- What the words of a problem say, word by word (Popeye manual; the context of a word is own).
use Rattle.std.specs.Prelude.{ℕ, List, [], ◌∷◌, true, false, if◌then◌else◌, Option, Some, None, is_some, unwrap_or, fold}
use Rattle.std.specs.List.{repeat}
use Rattle.chess_core.specs.Castling.{none_unmoved, with_unmoved}
use Rattle.chess_core.specs.Position.{with_man}
use Rattle.chess_core.specs.declared.man.Colour.{Colour}
use Rattle.chess_core.specs.declared.man.Kind.{Kind}
use Rattle.chess_core.specs.declared.man.Man.{Man}
use Rattle.chess_core.specs.declared.man.Unmoved.{Unmoved}
use Rattle.chess_core.specs.KindNames.{kind_of}
use Rattle.pop_input.specs.Names.{command_of, colour_of, condition_of, option_of, or_else}
use Rattle.pop_input.specs.Values.{squares_named, only_square, limit_of, most_solutions, stipulation_of}
use Rattle.pop_input.specs.declared.condition.Condition.{Condition}
use Rattle.pop_input.specs.declared.context.Context.{Context}
use Rattle.pop_input.specs.declared.names.Section.{Section}
use Rattle.pop_input.specs.declared.names.Section.TheVariants.{Pieces, Stipulation as Stipulations, Condition as Conditions, Options}
use Rattle.pop_input.specs.declared.names.Command.{Command}
use Rattle.pop_input.specs.declared.names.Command.TheVariants.{Enter}
use Rattle.pop_input.specs.declared.names.OptionWord.{OptionWord}
use Rattle.pop_input.specs.declared.names.OptionWord.TheVariants.{SetPlay, Variation, NoBoard, Expects}
use Rattle.pop_input.specs.declared.names.ExpectedValue.{ExpectedValue}
use Rattle.pop_input.specs.declared.names.ExpectedValue.TheVariants.{Number, OneSquare, Squares, MoreSquares}
use Rattle.pop_stipulation.specs.declared.stipulation.Stipulation.{Stipulation}
use Rattle.pop_input.specs.declared.switches.Switches.{Switches}

-- The context of a word: the open section, and the value that an option expects.

-- What a word is in its context: the number after MaxSolutions, the square after EnPassant, squares after NoCastling, a
-- command, or a word of this section, or of none before the first section.
pub data Role : Type 0 where
  Limit : Role
  EnPassantSquare : Role
  ForbiddenSquares : Role
  Control : Command → Role
  Within : Option Section → Role

-- what a word is if no option expects it
abbrev pub plain_role : Option Command → Option Section → Role
plain_role (Some command) section = Control command
plain_role None section = Within section

-- what a word is in a context in which an option expects this value
abbrev pub role_by : Option ExpectedValue → Context → List ℕ → Role
role_by (Some Number) context text = Limit
role_by (Some OneSquare) context text = EnPassantSquare
role_by (Some Squares) context text = ForbiddenSquares
role_by (Some MoreSquares) context text = if is_some (squares_named text) then ForbiddenSquares
    else plain_role (command_of text) context.section
role_by None context text = plain_role (command_of text) context.section

-- what a word is in its context: a value that an option expects, a command or a word of the section
abbrev pub role_of : Context → List ℕ → Role
role_of context text = role_by context.expected context text

-- the open section after a word
abbrev pub section_after : Role → Option Section → Option Section
section_after (Control (Enter opened)) old = Some opened
section_after _ old = old

-- the value that an option expects
abbrev pub expected_by : Option OptionWord → Option ExpectedValue
expected_by (Some (Expects expected)) = Some expected
expected_by _ = None

-- the value that is expected after a word
abbrev pub expected_after : Role → List ℕ → Option ExpectedValue
expected_after ForbiddenSquares text = Some MoreSquares
expected_after (Within (Some Options)) text = expected_by (option_of text)
expected_after _ text = None

-- the context after a word
abbrev pub context_after : Role → Context → List ℕ → Context
context_after role context text = record {
  section = section_after role context.section;
  expected = expected_after role text;
}

-- What single words say.

-- the colour after a word: a command ends it
abbrev pub colour_after : Role → List ℕ → Option Colour → Option Colour
colour_after (Control command) text old = None
colour_after (Within (Some Pieces)) text old = or_else (colour_of text) old
colour_after _ text old = old

-- the men after putting a man on each of the squares in turn
abbrev pub put_men : List (Option Man) → Man → List ℕ → List (Option Man)
put_men men man [] = men
put_men men man (square ∷ squares) = put_men (with_man men square man) man squares

-- the men after putting men of a colour and a kind on squares, if both are known
abbrev pub put_kind : Option Colour → Option Kind → List ℕ → List (Option Man) → List (Option Man)
put_kind (Some colour) (Some kind) squares men = put_men men
    (record { colour = colour; kind = kind }) squares
put_kind _ _ squares men = men

-- the men after a word of the section Pieces: a colour, or a letter and squares
abbrev pub put_word : Option Colour → List ℕ → List (Option Man) → List (Option Man)
put_word colour [] men = men
put_word colour (letter ∷ text) men = if is_some (colour_of (letter ∷ text)) then men
    else put_kind colour (kind_of letter) (unwrap_or (squares_named text) []) men

-- the men after a word
abbrev pub men_after : Role → Option Colour → List ℕ → List (Option Man) → List (Option Man)
men_after (Within (Some Pieces)) colour text men = put_word colour text men
men_after _ colour text men = men

-- the empty board
abbrev pub no_men : List (Option Man)
no_men = repeat 64 (None ∷ [])

-- the stipulation after a word: the first one counts
abbrev pub stipulation_after : Role → List ℕ → Option Stipulation → Option Stipulation
stipulation_after (Within (Some Stipulations)) text old = or_else old (stipulation_of text)
stipulation_after _ text old = old

-- the condition after a word: the first one counts
abbrev pub condition_after : Role → List ℕ → Option Condition → Option Condition
condition_after (Within (Some Conditions)) text old = or_else old (condition_of text)
condition_after _ text old = old

-- the options without a value after an option
abbrev pub switches_with : Option OptionWord → Switches → Switches
switches_with (Some SetPlay) old = record old { set_play = true }
switches_with (Some Variation) old = record old { variation = true }
switches_with (Some NoBoard) old = record old { no_board = true }
switches_with (Some (Expects expected)) old = old
switches_with None old = old

-- the options without a value after a word
abbrev pub switches_after : Role → List ℕ → Switches → Switches
switches_after (Within (Some Options)) text old = switches_with (option_of text) old
switches_after _ text old = old

-- the limit of solutions after a word
abbrev pub limit_after : Role → List ℕ → ℕ → ℕ
limit_after Limit text old = unwrap_or (limit_of text) old
limit_after _ text old = old

-- the en passant square after a word
abbrev pub crossed_after : Role → List ℕ → Option ℕ → Option ℕ
crossed_after EnPassantSquare text old = or_else (only_square (squares_named text)) old
crossed_after _ text old = old

-- the squares of NoCastling after a word
abbrev pub forbidden_after : Role → List ℕ → Unmoved → Unmoved
forbidden_after ForbiddenSquares text old =
    fold with_unmoved old (unwrap_or (squares_named text) [])
forbidden_after _ text old = old

-- All that the words say.

-- the context of the next word; the last colour since the last command; the men put so far, square by square; the first
-- stipulation and the first condition; the options without a value; the limit of the last MaxSolutions; the square of
-- the last EnPassant; the castling squares that NoCastling names
pub record Draft : Type 0 where
  pub context : Context
  pub colour : Option Colour
  pub men : List (Option Man)
  pub stipulation : Option Stipulation
  pub condition : Option Condition
  pub switches : Switches
  pub limit : ℕ
  pub crossed : Option ℕ
  pub castling_forbidden : Unmoved

-- the draft before any word: an empty board, and the greatest limit of solutions
abbrev pub empty_draft : Draft
empty_draft = record {
  context = record { section = None; expected = None };
  colour = None;
  men = no_men;
  stipulation = None;
  condition = None;
  switches = record { set_play = false; variation = false; no_board = false };
  limit = most_solutions;
  crossed = None;
  castling_forbidden = none_unmoved;
}

-- the draft after a word that has this role
abbrev pub draft_by : Role → Draft → List ℕ → Draft
draft_by role draft text = record {
  context = context_after role draft.context text;
  colour = colour_after role text draft.colour;
  men = men_after role draft.colour text draft.men;
  stipulation = stipulation_after role text draft.stipulation;
  condition = condition_after role text draft.condition;
  switches = switches_after role text draft.switches;
  limit = limit_after role text draft.limit;
  crossed = crossed_after role text draft.crossed;
  castling_forbidden = forbidden_after role text draft.castling_forbidden;
}

-- the draft after a word
abbrev pub draft_after : Draft → List ℕ → Draft
draft_after draft text = draft_by (role_of draft.context text) draft text

-- the draft after all of the words
abbrev pub draft_of : List (List ℕ) → Draft
draft_of words = fold draft_after empty_draft words
