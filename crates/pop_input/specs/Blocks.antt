-- The blocks of an input, and the entry of each block (own; commands of the Popeye manual).
use Rattle.pop_input.specs.declared.fault_kind.FaultKind.{FaultKind}
use Rattle.pop_input.specs.declared.fault_kind.FaultKind.TheVariants.{BeginProblemMissing, StipulationMissing, EndProblemMissing, InputTooLong, DeviceFailed}
use Rattle.pop_input.specs.FaultKinds.{at_line, fault_at}
use Rattle.std.specs.Prelude.{ℕ, List, [], ◌∷◌, ◌++◌, Bool, true, false, not, Option, Some, None}
use Rattle.std.specs.List.{onto_first}
use Rattle.pop_text.specs.Words.{Words, Token, Word, TextLine, Tail, End, Long, Broken, text_of_line}
use Rattle.pop_input.specs.Names.{command_of, text_word_of, closes, or_else}
use Rattle.pop_input.specs.Drafts.{Draft, empty_draft, draft_after, draft_of}
use Rattle.pop_input.specs.WordFaults.{fault_of}
use Rattle.pop_input.specs.Ends.{diagram_fault, diagram_of, posed_of}
use Rattle.pop_input.specs.Posed.{Posed}
use Rattle.pop_input.specs.declared.item.Fault.{Fault}
use Rattle.pop_input.specs.declared.names.Command.{Command}
use Rattle.pop_input.specs.declared.names.Command.TheVariants.{Begin, Enter, Next, Last}
use Rattle.pop_input.specs.declared.names.TextWord.{TextWord}
use Rattle.pop_input.specs.declared.names.TextWord.TheVariants.{Title, Author}
use Rattle.pop_stipulation.specs.declared.stipulation.Stipulation.{Stipulation}

-- the words among tokens, in order
abbrev pub words_in : List Token → List (List ℕ)
words_in [] = []
words_in ((Word line text) ∷ tokens) = text ∷ words_in tokens
words_in ((TextLine line keyword text) ∷ tokens) = words_in tokens

-- The words and text lines of a problem. In the first block the problem begins after the first word, BeginProblem; in a
-- later block it is the whole block.

-- whether a problem has begun after these tokens of a block: in the first block if a word is among them, in a later
-- block always
abbrev pub has_begun : Bool → List Token → Bool
has_begun false tokens = true
has_begun true [] = false
has_begun true ((Word line text) ∷ tokens) = true
has_begun true ((TextLine line keyword text) ∷ tokens) = has_begun true tokens

-- the tokens of a block that belong to its problem
abbrev pub tokens_inside : Bool → List Token → List Token
tokens_inside false tokens = tokens
tokens_inside true [] = []
tokens_inside true ((Word line text) ∷ tokens) = tokens
tokens_inside true ((TextLine line keyword text) ∷ tokens) = tokens_inside true tokens

-- The first faulty word.

-- the first fault of tokens that follow the words of this draft
abbrev pub first_fault : Draft → List Token → Option Fault
first_fault draft [] = None
first_fault draft ((Word line text) ∷ tokens) = or_else
    (at_line line (fault_of true draft text)) (first_fault (draft_after draft text) tokens)
first_fault draft ((TextLine line keyword text) ∷ tokens) = first_fault draft tokens

-- the first fault of the tokens of a block, the first block or a later one
abbrev pub block_fault : Bool → List Token → Option Fault
block_fault false tokens = first_fault empty_draft tokens
block_fault true [] = None
block_fault true ((Word line text) ∷ tokens) = or_else
    (at_line line (fault_of false empty_draft text)) (first_fault empty_draft tokens)
block_fault true ((TextLine line keyword text) ∷ tokens) = block_fault true tokens

-- the command that a token is, if any
abbrev pub closing_of : Token → Option Command
closing_of (Word line text) = command_of text
closing_of (TextLine line keyword text) = None

-- whether a token closes no block
abbrev pub closes_none : Token → Bool
closes_none token = not (closes (closing_of token))

-- the blocks of tokens, from the first token and the blocks of the others; the command is the first token's, if it has
-- one
abbrev pub before_blocks : Option Command → Token → List (List Token) → List (List Token)
before_blocks (Some Next) token blocks = (token ∷ []) ∷ blocks
before_blocks (Some Last) token blocks = (token ∷ []) ∷ []
before_blocks (Some Begin) token blocks = onto_first token blocks
before_blocks (Some (Enter section)) token blocks = onto_first token blocks
before_blocks None token blocks = onto_first token blocks

-- the blocks of tokens: cut after each NextProblem and EndProblem, up to the first EndProblem
abbrev pub blocks_of : List Token → List (List Token)
blocks_of [] = [] ∷ []
blocks_of (token ∷ tokens) = before_blocks (closing_of token) token (blocks_of tokens)

-- the line of a token
abbrev pub line_of : Token → ℕ
line_of (Word line text) = line
line_of (TextLine line keyword text) = line

-- this line if the condition is true, else none
abbrev pub line_if : Bool → ℕ → Option ℕ
line_if true line = Some line
line_if false line = None

-- the line of the word that closes a block, if one does
abbrev pub closing_line : List Token → Option ℕ
closing_line [] = None
closing_line (token ∷ tokens) = or_else (closing_line tokens)
    (line_if (closes (closing_of token)) (line_of token))

-- The title and the author.

-- the text of a wanted text word after one more text line
abbrev pub text_after : TextWord → List ℕ → Option TextWord → List ℕ → List ℕ
text_after Title old (Some Title) line = text_of_line line
text_after Author old (Some Author) line = text_of_line line
text_after _ old _ line = old

-- the last text of a wanted text word in tokens, or the old text if there is none
abbrev pub last_text : TextWord → List ℕ → List Token → List ℕ
last_text wanted old [] = old
last_text wanted old ((Word line text) ∷ tokens) = last_text wanted old tokens
last_text wanted old ((TextLine line keyword text) ∷ tokens) = last_text wanted
    (text_after wanted old (text_word_of keyword) text) tokens

-- The entry of a block.

-- a sound problem, or a fault
pub data Entry : Type 0 where
  Sound : Posed → Entry
  Faulty : Fault → Entry

-- a problem, or the fault in its place
abbrev pub entry_of : Option Fault → Posed → Entry
entry_of None problem = Sound problem
entry_of (Some fault) problem = Faulty fault

-- the entry of words without a fault, by their stipulation, if any
abbrev pub stated_entry : Draft → Option Stipulation → List ℕ → List ℕ → ℕ → Entry
stated_entry draft None title author line = Faulty (fault_at StipulationMissing line)
stated_entry draft (Some stipulation) title author line = entry_of
    (at_line line (diagram_fault draft stipulation (diagram_of draft stipulation.form)))
    (posed_of draft stipulation title author)

-- the entry of words without a fault: the problem that they pose, or the fault at its end, in this line
unfoldable pub posed_entry : Draft → List ℕ → List ℕ → ℕ → Entry
posed_entry draft title author line = stated_entry draft draft.stipulation title author line

-- the entry of words: their first fault, if any, else what they pose
abbrev pub judged_entry : Option Fault → Draft → List ℕ → List ℕ → ℕ → Entry
judged_entry (Some fault) draft title author line = Faulty fault
judged_entry None draft title author line = posed_entry draft title author line

-- the entry of the tokens of a problem that a word in this line closes
abbrev pub closed_entry : Option Fault → ℕ → List Token → Entry
closed_entry fault line tokens = judged_entry fault (draft_of (words_in tokens))
    (last_text Title [] tokens) (last_text Author [] tokens) line

-- the fault of an input that ends in a block, by whether the block's problem has begun and how the input ends
abbrev pub end_fault : Bool → Tail → FaultKind
end_fault true End = EndProblemMissing
end_fault false End = BeginProblemMissing
end_fault begun Long = InputTooLong
end_fault begun Broken = DeviceFailed

-- the entries after the fault of a block that isn't closed: one if the input is too long or its source failed
abbrev pub entries_after_fault : Tail → ℕ → List Entry
entries_after_fault End line = []
entries_after_fault Long line = Faulty (fault_at InputTooLong line) ∷ []
entries_after_fault Broken line = Faulty (fault_at DeviceFailed line) ∷ []

-- the entries of a block, by the first fault of its words, if any, and the line of the word that closes it, if any
abbrev pub entries_by : Option Fault → Option ℕ → Bool → Tail → ℕ → List Token → List Entry
entries_by fault (Some line) first tail tail_line block = closed_entry fault line
    (tokens_inside first block) ∷ []
entries_by (Some fault) None first tail tail_line block =
    Faulty fault ∷ entries_after_fault tail tail_line
entries_by None None first tail tail_line block = Faulty
    (fault_at (end_fault (has_begun first block) tail) tail_line) ∷ []

-- the entries of blocks, with the first block of the input or without it
abbrev pub block_entries : Bool → Tail → ℕ → List (List Token) → List Entry
block_entries first tail tail_line [] = []
block_entries first tail tail_line (block ∷ blocks) =
    entries_by (block_fault first block) (closing_line block) first tail tail_line block
    ++ block_entries false tail tail_line blocks

-- the entries of the words from the start of a block on, the first block or a later one
abbrev pub entries_of : Bool → Words → List Entry
entries_of first words = block_entries first words.tail words.tail_line (blocks_of words.tokens)
