-- The text of an item depends on its own block: a law over the blocks of an input, each by its index.
use Rattle.pop_run.proofs.Basics.{Bool, Entry, List, None, Option, Some, [], ap, arith, entries_in, entry_text, false, inl, refl, suc, sym, true, ℕ, ◌++◌, ◌+◌, ◌∙◌, ◌∷◌, ◌≡◌}
use Rattle.std.proofs.Common.{inr, zero, ◌⊎◌}
use Rattle.std.proofs.lemmas.Option.{none-some, same_Some}
use Rattle.std.specs.List.{onto_first}
use Rattle.std.specs.Prelude.{is_some, option_map, slice_get}
use Rattle.pop_text.specs.Words.{Tail, Token, words_of}
use Rattle.pop_input.specs.Blocks.{before_blocks, block_entries, block_fault, blocks_of, closing_line, closing_of, entries_by}
use Rattle.pop_input.specs.Names.{closes}
use Rattle.pop_input.specs.declared.item.Fault.{Fault}
use Rattle.pop_input.specs.declared.names.Command.{Command}
use Rattle.pop_input.specs.declared.names.Command.TheVariants.{Begin, Enter, Next, Last}
use Rattle.pop_run.specs.Laws.{NoNeighbourChangesAText, is_closed}

-- a word closes each block but the last
abbrev AreClosed : List (List Token) → Type 0
AreClosed [] = Unit {0}
AreClosed (block ∷ []) = Unit {0}
AreClosed (block ∷ next ∷ blocks) = (is_closed block ≡ true) × AreClosed (next ∷ blocks)

closed_longer : (token : Token) (block : List Token) → is_closed block ≡ true → is_closed (token ∷ block) ≡ true
closed_longer token block closed = grind arith

onto_closed : (token : Token) (blocks : List (List Token)) → AreClosed blocks → AreClosed (onto_first token blocks)
onto_closed token [] are = tt
onto_closed token (block ∷ []) are = tt
onto_closed token (block ∷ next ∷ blocks) are = (closed_longer token block are.0, are.1)

closed_alone : (token : Token) → closes (closing_of token) ≡ true → is_closed (token ∷ []) ≡ true
closed_alone token closing = rw closing refl

before_closed : (command : Option Command) (token : Token) (blocks : List (List Token)) → closing_of token ≡ command → AreClosed blocks
    → AreClosed (before_blocks command token blocks)
before_closed (Some Next) token [] is are = tt
before_closed (Some Next) token (block ∷ blocks) is are = (closed_alone token (ap closes is), are)
before_closed (Some Last) token blocks is are = tt
before_closed (Some Begin) token blocks is are = onto_closed token blocks are
before_closed (Some (Enter section)) token blocks is are = onto_closed token blocks are
before_closed None token blocks is are = onto_closed token blocks are

blocks_closed : (tokens : List Token) → AreClosed (blocks_of tokens)
blocks_closed [] = tt
blocks_closed (token ∷ tokens) = before_closed (closing_of token) token (blocks_of tokens) refl (blocks_closed tokens)

-- whether the block at an index is the input's first
abbrev first_at : Bool → ℕ → Bool
first_at first zero = first
first_at first (suc index) = false

-- a block has an entry, whatever entries follow
entry_in_front : (fault : Option Fault) (closing : Option ℕ) (first : Bool) (tail : Tail) (line : ℕ) (block : List Token) (more : List Entry)
    → slice_get (entries_by fault closing first tail line block ++ more) 0 ≡ slice_get (entries_by fault closing first tail line block) 0
entry_in_front fault (Some l) first tail line block more = refl
entry_in_front (Some f) None first tail line block more = refl
entry_in_front None None first tail line block more = refl

-- a closed block has no other entry
one_entry : (fault : Option Fault) (closing : Option ℕ) (first : Bool) (tail : Tail) (line : ℕ) (block : List Token) (more : List Entry) (index : ℕ)
    → is_some closing ≡ true → slice_get (entries_by fault closing first tail line block ++ more) (suc index) ≡ slice_get more index
one_entry fault (Some l) first tail line block more index closed = refl
one_entry fault None first tail line block more index closed = absurd (grind arith)

-- the entry at an index is the first of the block there
entry_at : (first : Bool) (tail : Tail) (line : ℕ) (blocks : List (List Token)) (index : ℕ) (block : List Token) → AreClosed blocks
    → slice_get blocks index ≡ Some block → slice_get (block_entries first tail line blocks) index
    ≡ slice_get (entries_by (block_fault (first_at first index) block) (closing_line block) (first_at first index) tail line block) 0
entry_at first tail line [] index block are at = absurd (none-some block at)
entry_at first tail line (b ∷ blocks) zero block are at = rw (sym (same_Some b block at)) (entry_in_front _ _ first tail line b _)
entry_at first tail line (b ∷ []) (suc index) block are at = absurd (none-some block at)
entry_at first tail line (b ∷ next ∷ blocks) (suc index) block are at = one_entry _ _ first tail line b _ index are.0
    ∙ entry_at false tail line (next ∷ blocks) index block are.1 at ∙ grind arith

-- the entry of a closed block doesn't depend on how the input ends
same_entry : (fault : Option Fault) (closing : Option ℕ) (first : Bool) (tail other : Tail) (line further : ℕ) (block : List Token)
    → (is_some closing ≡ true) ⊎ ((tail ≡ other) × (line ≡ further)) → (entry : Entry)
    × (slice_get (entries_by fault closing first tail line block) 0 ≡ Some entry)
    × (slice_get (entries_by fault closing first other further block) 0 ≡ Some entry)
same_entry fault (Some l) first tail other line further block alike = (_, refl, refl)
same_entry fault None first tail other line further block (inl closed) = absurd (grind arith)
same_entry (Some f) None first tail other line further block (inr same) = (_, refl, refl)
same_entry None None first tail other line further block (inr (same, level)) = (_, refl, rw (sym same, sym level) refl)

-- no neighbour changes a text
pub own_texts : NoNeighbourChangesAText
unfolding entries_in
own_texts choice input other index block here there ends =
    let w = words_of input in
    let v = words_of other in
    let alike : (is_closed block ≡ true) ⊎ ((w.tail ≡ v.tail) × (w.tail_line ≡ v.tail_line)) = elim ends [
      | inl closed ↦ inl closed
      | inr same ↦ inr (same.tail, same.line)
    ] in
    let first = first_at true index in
    let same = same_entry (block_fault first block) (closing_line block) first w.tail v.tail w.tail_line v.tail_line block alike in
    let text = λ (entry : Entry). entry_text choice (index + 1) entry in
    record {
      text = text same.0;
      here = ap (option_map text) (entry_at true w.tail w.tail_line (blocks_of w.tokens) index block (blocks_closed w.tokens) here ∙ same.1);
      there = ap (option_map text) (entry_at true v.tail v.tail_line (blocks_of v.tokens) index block (blocks_closed v.tokens) there ∙ same.2);
    }
