-- The item at the end of a block.
use Rattle.pop_input.proofs.Words.{Block, Bool, Command, CutsOff, Device, DeviceFailed, Entry, Fault, FaultKind, First, Input, IsOver, Later, List, Long, MayFollow, NextItem, No, None, Nothing, Option, ReadFault, Reading, Reads, ReadsWord, Some, Sound, ReaderState, Tail, Takes, TakesNothing, TakesPart, TooLong, Word, Yes, [], among}
use Rattle.pop_input.proofs.Words.{append-nil, arith, block_fault, closed_entry, command_of, cut_fault, ended_by, ended_item, entry_now, item_of, entries_by, entries_left, entries_of, false, fault_at, last_of, entries_after_fault, next_after, no_words, put_before, refl, subst, end_fault, tokens_inside, item_of_cut, true, words_left, ℕ, ◌++◌, ◌∷◌, ◌≡◌}
use Rattle.pop_text.specs.Words.{Token, End as AtEnd, Broken as Failing}
use Rattle.pop_text.specs.declared.read_fault.ReadFault.TheVariants.{InputTooLong as PastLimit}
use Rattle.pop_input.specs.Blocks.{Faulty as FaultyEntry}
use Rattle.pop_input.specs.declared.item.Item.TheVariants.{Faulty as FaultyItem}
use Rattle.pop_input.specs.declared.item.Last.{Last}
use Rattle.pop_input.specs.declared.names.Command.TheVariants.{Next as NextProblem, Last as EndProblem}
use Rattle.pop_input.specs.declared.reader.Next.{Next}
pub use Rattle.pop_input.specs.ties.Spans.{is_first}
use Rattle.pop_input.proofs.Taking.{takes_then}
use Rattle.pop_input.proofs.Blocks.{next_entries, last_entries, ended_entries}
use Rattle.pop_input.proofs.Items.{BlockSoFar, word_read, takes_more}
use Rattle.pop_input.specs.declared.fault_kind.FaultKind.TheVariants.{InputTooLong}

-- the block that is read first, or a later one
abbrev pub block_of : Bool → Next
block_of true = First
block_of false = Later

-- an entry that was read is the next item
read_item : (old new : ReaderState) (had left : Option (List ℕ)) (entry : Entry) (last : Last) → new.next ≡ next_after last
    → Reads old new had left (entry ∷ []) → NextItem old new had left (item_of entry last)
read_item old new had left (Sound problem) last is reads = (reads, is)
read_item old new had left (FaultyEntry fault) last is reads = (reads, is)

module _ (first : Bool) (old new : ReaderState) (had left : Option (List ℕ)) (starts : old.next ≡ block_of first) where
  -- items of tokens that were taken
  reads_by : (done : List Token) → Takes (among old.at) (among new.at) had left done → (entries : List Entry) → ((rest : Input) → MayFollow new.at.end rest
      → entries_of first (put_before done (words_left None new.at rest)) ≡ entries ++ entries_left new rest) → Reads old new had left entries
  reads_by done t entries is = grind arith

  -- Closing words.

  -- The item of a block that is closed.

  module _ (mid : Reading) (met : Option (List ℕ)) (block next : Block) (b : BlockSoFar first old.at mid had met block) (line : ℕ) (text : List ℕ)
      (t : TakesPart mid new.at met left (Word line text)) (r : ReadsWord block next line text) where
    abbrev full : List Token
    full = b.done ++ Word line text ∷ []

    taken : Takes (among old.at) (among new.at) had left full
    taken = takes_more first old.at mid new.at had met left block next b (Word line text) t

    closed_reads : (last : Last) → new.next ≡ next_after last
        → Reads old new had left (closed_entry (block_fault first full) line (tokens_inside first full) ∷ [])
        → NextItem old new had left (item_of (entry_now next line) last)
    closed_reads last is reads = let w = word_read first old.at mid new.at had met left block next b line text r.fault (λ none. r) in
        grind (arith, read_item)

    next_closes : command_of text ≡ Some NextProblem → new.next ≡ Later → NextItem old new had left (item_of (entry_now next line) No)
    next_closes is later = closed_reads No later (reads_by full taken _ (λ rest may.
        grind (arith, next_entries first b.done line text b.plain (words_left None new.at rest) is)))

    last_closes : command_of text ≡ Some EndProblem → new.next ≡ Nothing → NextItem old new had left (item_of (entry_now next line) Yes)
    last_closes is over = closed_reads Yes over (reads_by full taken _ (λ rest may.
        grind (arith, last_entries first b.done line text b.plain (words_left None new.at rest) is)))

    -- a closing word ends the block, and its item is the next one to come
    pub word_closes : (last : Last) (c : Option Command) → command_of text ≡ c → last_of c ≡ Some last → new.next ≡ next_after last
        → NextItem old new had left (item_of (entry_now next line) last)
    word_closes last c how is following = grind (arith, next_closes, last_closes)

  -- Ends of the input.

  module _ (mid : Reading) (met : Option (List ℕ)) (block : Block) (b : BlockSoFar first old.at mid had met block) where
    all_taken : Takes (among mid) (among new.at) met left [] → Takes (among old.at) (among new.at) had left b.done
    all_taken t = subst (λ d. Takes (among old.at) (among new.at) had left d) (append-nil b.done)
        (takes_then (among old.at) (among mid) (among new.at) had met left b.done [] b.takes t)

    ended_by_fault : (f : Option Fault) (line : ℕ) → block.fault ≡ f → line ≡ new.at.line
        → entries_by f None first AtEnd new.at.line b.done ≡ FaultyEntry (ended_by f (fault_at (end_fault block.begun AtEnd) line)) ∷ []
    ended_by_fault f line is here = grind (arith, b.reported)

    -- the input ends in a block
    pub input_ends : (line : ℕ) → TakesNothing mid new.at met left AtEnd line → new.next ≡ Nothing → NextItem old new had left (ended_item block line)
    input_ends line t over = grind (arith, all_taken t.0, ended_by_fault, ended_entries)

    -- the input is cut off in a block with a fault
    fault_then_cut : (fault : Fault) (tail : Tail) → block.fault ≡ Some fault → Takes (among mid) (among new.at) met left [] → IsOver new.at tail
        → entries_after_fault tail new.at.line ≡ entries_of false (no_words tail new.at.line) → new.next ≡ Later
        → NextItem old new had left (FaultyItem fault No)
    fault_then_cut fault tail is t over more later = grind (arith, reads_by, all_taken, ended_entries)

    cut_with_fault : (fault : Fault) (cut : ReadFault) → block.fault ≡ Some fault → CutsOff mid new.at met left cut → new.next ≡ Later
        → NextItem old new had left (FaultyItem fault No)
    cut_with_fault fault (TooLong line) is t later = absurd t
    cut_with_fault fault (PastLimit line) is t later = fault_then_cut fault Long is t.0 t.1 refl later
    cut_with_fault fault (Device line) is t later = fault_then_cut fault Failing is t.0.0 t.0.1 refl later

    -- the input is cut off in a block without a fault
    cut_alone : (kind : FaultKind) (line : ℕ) (tail : Tail) → block.fault ≡ None → Takes (among mid) (among new.at) met left [] → IsOver new.at tail
        → line ≡ new.at.line → ((begun : Bool) → end_fault begun tail ≡ kind) → new.next ≡ Nothing
        → NextItem old new had left (FaultyItem (fault_at kind line) Yes)
    cut_alone kind line tail is t over here tails nothing = grind (arith, reads_by, all_taken, ended_entries)

    cut_without_fault : (cut : ReadFault) → block.fault ≡ None → CutsOff mid new.at met left cut → new.next ≡ Nothing
        → NextItem old new had left (FaultyItem (cut_fault cut) Yes)
    cut_without_fault (TooLong line) is t nothing = absurd t
    cut_without_fault (PastLimit line) is t nothing = cut_alone InputTooLong line Long is t.0 t.1 t.2 (λ begun. grind arith) nothing
    cut_without_fault (Device line) is t nothing = cut_alone DeviceFailed line Failing is t.0.0 t.0.1 t.0.2 (λ begun. grind arith) nothing

    -- a block that is cut reports its own fault first, else the cut
    pub cut_read : (f : Option Fault) (cut : ReadFault) → block.fault ≡ f → CutsOff mid new.at met left cut → new.next ≡ next_after (item_of_cut f cut).1
        → NextItem old new had left (FaultyItem (item_of_cut f cut).0 (item_of_cut f cut).1)
    cut_read None cut is t following = cut_without_fault cut is t following
    cut_read (Some fault) cut is t following = cut_with_fault fault cut is t following
