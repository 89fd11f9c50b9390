-- The fault of a word or of the end of a block is never that the device failed.
use Rattle.pop_input.proofs.Items.{BlockSoFar, word_read}
use Rattle.pop_input.proofs.Words.{Block, Bool, Colour, Command, CutsOff, Fault, FaultKind, HasFailed, Kind, List, Man, None, Option, ReadFault, Reading, Some, Draft, Stipulation, TextLine, Token, Word, [], arith, block_fault, condition_fault, control_fault, ended_item, false, fault_of, first_fault, if◌then◌else◌, item_of, judged_entry, letter_fault, man_fault, men_fault, empty_draft, is_device_failure, or_else, subst, sym, entry_now, ReadsWord, TakesPart, ◌++◌, ◌≡◌, pieces_fault, posed_entry, put_fault, role_fault, draft_after, stipulation_fault, item_of_cut, true, with_man, ℕ, ◌∷◌}
use Rattle.pop_input.specs.declared.condition.Condition.{Condition}
use Rattle.pop_input.specs.declared.item.Item.TheVariants.{Faulty}
use Rattle.pop_input.specs.declared.item.Last.{Last}
use Rattle.pop_input.specs.Drafts.{Role}

-- no fault, or one of the text
abbrev IsTextual : Option FaultKind → Type 0
IsTextual None = Unit {0}
IsTextual (Some kind) = is_device_failure kind ≡ false

textual_if : (b : Bool) (x y : Option FaultKind) → IsTextual x → IsTextual y → IsTextual (if b then x else y)
textual_if b x y p q = grind arith

control_textual : (command : Command) → IsTextual (control_fault command)
control_textual command = grind arith

man_textual : (men : List (Option Man)) (man : Man) (square : ℕ) → IsTextual (man_fault men man square)
man_textual men man square = grind arith

men_textual : (men : List (Option Man)) (man : Man) (squares : List ℕ) → IsTextual (men_fault men man squares)
men_textual men man [] = tt
men_textual men man (square ∷ squares) = grind (arith, man_textual, men_textual (with_man men square man) man squares)

put_textual : (men : List (Option Man)) (colour : Option Colour) (of : Kind) (squares : Option (List ℕ)) → IsTextual (put_fault men colour of squares)
put_textual men colour of squares = grind (arith, men_textual)

letter_textual : (draft : Draft) (of : Option Kind) (text : List ℕ) → IsTextual (letter_fault draft of text)
letter_textual draft of text = grind (arith, textual_if, put_textual)

pieces_textual : (draft : Draft) (text : List ℕ) → IsTextual (pieces_fault draft text)
pieces_textual draft text = grind (arith, textual_if, letter_textual)

stipulation_textual : (given : Option Stipulation) (text : List ℕ) → IsTextual (stipulation_fault given text)
stipulation_textual given text = grind (arith, textual_if)

condition_textual : (given : Option Condition) (text : List ℕ) → IsTextual (condition_fault given text)
condition_textual given text = grind (arith, textual_if)

role_textual : (draft : Draft) (role : Role) (text : List ℕ) → IsTextual (role_fault draft role text)
role_textual draft role text = grind (arith, textual_if, control_textual, pieces_textual, stipulation_textual, condition_textual)

word_textual : (begun : Bool) (draft : Draft) (text : List ℕ) → IsTextual (fault_of begun draft text)
word_textual begun draft text = grind (arith, textual_if, role_textual)

-- Faults.

-- no fault, or one of the text, with its line
abbrev pub IsTextualFault : Option Fault → Type 0
IsTextualFault None = Unit {0}
IsTextualFault (Some fault) = is_device_failure fault.kind ≡ false

fault_else : (a b : Option Fault) → IsTextualFault a → IsTextualFault b → IsTextualFault (or_else a b)
fault_else a b p q = grind arith

first_textual : (draft : Draft) (tokens : List Token) → IsTextualFault (first_fault draft tokens)
first_textual draft [] = tt
first_textual draft (Word line text ∷ tokens) = grind (arith, fault_else, word_textual true draft text, first_textual (draft_after draft text) tokens)
first_textual draft (TextLine line keyword text ∷ tokens) = first_textual draft tokens

-- a block's words have no fault, or one of the text
pub block_textual : (first : Bool) (tokens : List Token) → IsTextualFault (block_fault first tokens)
block_textual false tokens = first_textual empty_draft tokens
block_textual true [] = tt
block_textual true (Word line text ∷ tokens) = grind (arith, fault_else, word_textual, first_textual)
block_textual true (TextLine line keyword text ∷ tokens) = block_textual true tokens

-- Items.

-- a fault of the text is reported in any state
textual_item : (context : Reading) (fault : Fault) (last : Last) → IsTextualFault (Some fault) → HasFailed context (Faulty fault last)
textual_item context fault last p = grind arith

-- the item that a word closes has no fault of the device
pub closed_textual : (context : Reading) (f : Option Fault) (draft : Draft) (title author : List ℕ) (line : ℕ) (last : Last) → IsTextualFault f
    → HasFailed context (item_of (judged_entry f draft title author line) last)
unfolding posed_entry
closed_textual context f draft title author line last p = grind (arith, textual_item)

-- the item in which the input ends has no fault of the device
pub ended_textual : (context : Reading) (block : Block) (line : ℕ) → IsTextualFault block.fault → HasFailed context (ended_item block line)
ended_textual context block line p = grind arith

-- the item that is cut has a fault of the device only if the source has failed
pub cut_failed : (old new : Reading) (had left : Option (List ℕ)) (f : Option Fault) (cut : ReadFault) → CutsOff old new had left cut → IsTextualFault f
    → HasFailed new (Faulty (item_of_cut f cut).0 (item_of_cut f cut).1)
cut_failed old new had left f cut t p = grind arith

-- Blocks.

-- a block while it is read has no fault, or one of the text
pub block_fault_textual : (first : Bool) (old new : Reading) (had left : Option (List ℕ)) (block : Block) → BlockSoFar first old new had left block
    → IsTextualFault block.fault
block_fault_textual first old new had left block b = subst IsTextualFault (sym b.fault) (block_textual first b.done)

module _ (first : Bool) (old mid new : Reading) (had met left : Option (List ℕ)) (block next : Block)
    (b : BlockSoFar first old mid had met block) where
  -- the item that a word closes has no fault of the device
  pub word_closes_textual : (line : ℕ) (text : List ℕ) → TakesPart mid new met left (Word line text)
      → ReadsWord block next line text → (last : Last) → HasFailed new (item_of (entry_now next line) last)
  word_closes_textual line text t r last =
      let w = word_read first old mid new had met left block next b line text r.fault (λ none. r) in
      closed_textual new next.fault next.draft next.title next.author line last
      (subst IsTextualFault (sym w.0) (block_textual first (b.done ++ Word line text ∷ [])))
