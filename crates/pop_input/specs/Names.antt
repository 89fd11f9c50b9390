-- Keywords (Popeye manual) and their short forms (own).
use Rattle.std.specs.Prelude.{ℕ, ◌&&◌, length, nat_le, nat_eq, List, [], ◌∷◌, Bool, true, false, codes, find, map, Option, Some, None, option_map, if◌then◌else◌}
use Rattle.std.specs.Char.{to_ascii_lowercase}
use Rattle.std.specs.List.{starts_with}
use Rattle.chess_core.specs.declared.man.Colour.{Colour}
use Rattle.chess_core.specs.declared.man.Colour.TheVariants.{White, Black}
use Rattle.pop_text.specs.Words.{is_short_form, title_name, author_name, origin_name, remark_name}
use Rattle.pop_input.specs.declared.condition.Condition.{Condition}
use Rattle.pop_input.specs.declared.condition.Condition.TheVariants.{Circe, Madrasi}
use Rattle.pop_input.specs.declared.names.Section.{Section}
use Rattle.pop_input.specs.declared.names.Section.TheVariants.{Pieces, Stipulation, Condition as Conditions, Options}
use Rattle.pop_input.specs.declared.names.Command.{Command}
use Rattle.pop_input.specs.declared.names.Command.TheVariants.{Begin, Enter, Next, Last}
use Rattle.pop_input.specs.declared.names.OptionWord.{OptionWord}
use Rattle.pop_input.specs.declared.names.OptionWord.TheVariants.{SetPlay, Variation, NoBoard, Expects}
use Rattle.pop_input.specs.declared.names.ExpectedValue.{ExpectedValue}
use Rattle.pop_input.specs.declared.names.ExpectedValue.TheVariants.{Number, OneSquare, Squares}
use Rattle.pop_input.specs.declared.names.TextWord.{TextWord}
use Rattle.pop_input.specs.declared.names.TextWord.TheVariants.{Title, Author, Origin, Remark}

-- the value of a word in a table of names, each in full or as a short form
abbrev pub entry_named : {A : Type 0} → List (List ℕ × A) → List ℕ → Option A
entry_named table text = option_map (λ entry. entry.1)
    (find (λ entry. is_short_form entry.0 text) table)

-- the first of two values, if there is one, else the second
abbrev pub or_else : {A : Type 0} → Option A → Option A → Option A
or_else None later = later
or_else (Some a) later = Some a

-- the section that a command opens
unfoldable pub section_of : List ℕ → Option Section
section_of text = entry_named ((codes "pieces", Pieces) ∷ (codes "stipulation", Stipulation)
    ∷ (codes "condition", Conditions) ∷ (codes "option", Options) ∷ []) text

-- the command that a word is, if any
unfoldable pub command_of : List ℕ → Option Command
command_of text = or_else (entry_named ((codes "beginproblem", Begin) ∷ (codes "nextproblem", Next)
    ∷ (codes "endproblem", Last) ∷ []) text) (option_map Enter (section_of text))

-- the text word that a word is, if any
unfoldable pub text_word_of : List ℕ → Option TextWord
text_word_of text = entry_named ((title_name, Title) ∷ (author_name, Author)
    ∷ (origin_name, Origin) ∷ (remark_name, Remark) ∷ []) text

-- the condition that a word names
unfoldable pub condition_of : List ℕ → Option Condition
condition_of text = entry_named ((codes "circe", Circe) ∷ (codes "madrasi", Madrasi) ∷ []) text

-- the value that an option expects, by its word
unfoldable pub expected_of : List ℕ → Option ExpectedValue
expected_of text = entry_named ((codes "maxsolutions", Number) ∷ (codes "enpassant", OneSquare)
    ∷ (codes "nocastling", Squares) ∷ []) text

-- the option that a word names
unfoldable pub option_of : List ℕ → Option OptionWord
option_of text = or_else (entry_named ((codes "setplay", SetPlay) ∷ (codes "variation", Variation)
    ∷ (codes "noboard", NoBoard) ∷ []) text) (option_map Expects (expected_of text))

-- whether a word is one letter or more with which a colour's name begins, in capitals or not
abbrev pub is_colour : List ℕ → List ℕ → Bool
is_colour name text = nat_le 1 (length text)
    && starts_with nat_eq name (map to_ascii_lowercase text)

-- the colour that a word names
unfoldable pub colour_of : List ℕ → Option Colour
colour_of text = if is_colour (codes "white") text then Some White
    else (if is_colour (codes "black") text then Some Black else None)

-- whether a command closes a block
abbrev pub closes : Option Command → Bool
closes (Some Next) = true
closes (Some Last) = true
closes _ = false
