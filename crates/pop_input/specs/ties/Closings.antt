-- The block while it is read, and its item at its end (own).
use Rattle.pop_input.specs.FaultKinds.{at_line, fault_at}
use Rattle.pop_input.specs.declared.fault_kind.FaultKind.TheVariants.{InputTooLong, DeviceFailed}
use Rattle.std.specs.Prelude.{◌≡◌, ℕ, Bool, true, false, Option, None, Some}
use Rattle.pop_text.specs.Words.{End}
use Rattle.pop_text.specs.declared.read_fault.ReadFault.{ReadFault}
use Rattle.pop_text.specs.declared.read_fault.ReadFault.TheVariants.{TooLong, InputTooLong as PastLimit, Device}
use Rattle.pop_input.specs.Names.{or_else}
use Rattle.pop_input.specs.Blocks.{Entry, Sound as SoundEntry, Faulty as FaultyEntry, judged_entry, end_fault}
use Rattle.pop_input.specs.WordFaults.{fault_of}
use Rattle.pop_input.specs.Drafts.{Draft, empty_draft, draft_after}
use Rattle.pop_input.specs.declared.block.Block.{Block}
use Rattle.pop_input.specs.declared.item.Fault.{Fault}
use Rattle.pop_input.specs.declared.item.Item.{Item}
use Rattle.pop_input.specs.declared.item.Item.TheVariants.{Sound, Faulty}
use Rattle.pop_input.specs.declared.item.Last.{Last}
use Rattle.pop_input.specs.declared.item.Last.TheVariants.{Yes, No}
use Rattle.pop_input.specs.declared.names.Command.{Command}
use Rattle.pop_input.specs.declared.names.Command.TheVariants.{Next as NextProblem, Last as EndProblem, Begin, Enter}
use Rattle.pop_input.specs.declared.names.TextWord.{TextWord}
use Rattle.pop_input.specs.declared.names.TextWord.TheVariants.{Title, Author}
use Rattle.std.specs.Prelude.{List, [], not}

-- the draft after one more word: the first word of the input says nothing
abbrev pub draft_of_next : Bool → Draft → List ℕ → Draft
draft_of_next true draft text = draft_after draft text
draft_of_next false draft text = draft

-- the text of a wanted text word after one more text line
abbrev pub text_with : TextWord → List ℕ → TextWord → List ℕ → List ℕ
text_with Title old Title text = text
text_with Author old Author text = text
text_with _ old _ text = old

-- the text of a wanted text word after one more text line, which has no effect before the first problem
abbrev pub noted_text : Bool → TextWord → List ℕ → TextWord → List ℕ → List ℕ
noted_text true wanted old keyword text = text_with wanted old keyword text
noted_text false wanted old keyword text = old

-- nothing of a block is read
pub record IsNew (first : Bool) (block : Block) : Type 0 where
  pub fault : block.fault ≡ None
  pub begun : block.begun ≡ not first
  pub draft : block.draft ≡ empty_draft
  pub title : block.title ≡ []
  pub author : block.author ≡ []

-- a block before and after reading a word in this line
pub record ReadsWord (old new : Block) (line : ℕ) (text : List ℕ) : Type 0 where
  pub fault : new.fault ≡ or_else old.fault (at_line line (fault_of old.begun old.draft text))
  pub begun : new.fault ≡ None → new.begun ≡ true
  pub draft : new.fault ≡ None → new.draft ≡ draft_of_next old.begun old.draft text
  pub title : new.title ≡ old.title
  pub author : new.author ≡ old.author

-- a block before and after taking a text line
pub record TakesLine (old new : Block) (keyword : TextWord) (text : List ℕ) : Type 0 where
  pub fault : new.fault ≡ old.fault
  pub begun : new.begun ≡ old.begun
  pub draft : new.draft ≡ old.draft
  pub title : new.title ≡ noted_text old.begun Title old.title keyword text
  pub author : new.author ≡ noted_text old.begun Author old.author keyword text

-- the item of an entry, the last one or not
abbrev pub item_of : Entry → Last → Item
item_of (SoundEntry problem) last = Sound problem last
item_of (FaultyEntry fault) last = Faulty fault last

-- the entry of a block if a word in this line closes it
abbrev pub entry_now : Block → ℕ → Entry
entry_now block line = judged_entry block.fault block.draft block.title block.author line

-- the fault of a block, if any, else the other fault
abbrev pub ended_by : Option Fault → Fault → Fault
ended_by (Some fault) other = fault
ended_by None other = other

-- the item of a block in which the input ends
abbrev pub ended_item : Block → ℕ → Item
ended_item block line = Faulty (ended_by block.fault (fault_at (end_fault block.begun End) line))
    Yes

-- the fault of an input that is cut
abbrev pub cut_fault : ReadFault → Fault
cut_fault (TooLong line) = fault_at InputTooLong line
cut_fault (PastLimit line) = fault_at InputTooLong line
cut_fault (Device line) = fault_at DeviceFailed line

-- the fault to report if the input is cut in a block, and whether it is the last; if the block has a fault of its own,
-- the cut is another item
abbrev pub item_of_cut : Option Fault → ReadFault → Fault × Last
item_of_cut (Some fault) cut = (fault, No)
item_of_cut None cut = (cut_fault cut, Yes)

-- whether the item that a command closes is the last, if it closes one
abbrev pub last_of : Option Command → Option Last
last_of (Some NextProblem) = Some No
last_of (Some EndProblem) = Some Yes
last_of (Some Begin) = None
last_of (Some (Enter section)) = None
last_of None = None
