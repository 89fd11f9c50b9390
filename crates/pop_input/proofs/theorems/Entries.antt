-- The entry of a block depends only on its own words and their lines: no neighbour changes it.
use Rattle.pop_input.proofs.Words.{Bool, Command, Entry, List, None, Option, Some, Tail, Token, Word, Words, [], ap, append_assoc, arith, block_fault, closed_entry, closes, closes_none, command_of, entries_by, entries_of, false, flat_map, get_or, get_or_at, length, length-map, list_all, map, no_words, put_before, refl, suc, sym, tokens_inside, true, ℕ, ◌++◌, ◌∙◌, ◌∷◌, ◌≡◌}
use Rattle.pop_input.specs.declared.names.Command.TheVariants.{Last, Next}
use Rattle.pop_input.proofs.Blocks.{ended_entries, last_entries, next_entries}

-- A block that a word closes: its words and text lines, none of which closes a block, then the closing word, NextProblem or EndProblem, with its
-- line.
pub record ClosedBlock : Type 0 where
  pub front : List Token
  pub line : ℕ
  pub closer : List ℕ
  pub plain : list_all closes_none front ≡ true
  pub closing : closes (command_of closer) ≡ true

-- All words and text lines of a closed block.
abbrev pub tokens_in : ClosedBlock → List Token
tokens_in block = block.front ++ Word block.line block.closer ∷ []

-- The entry of a closed block alone, as the first block of an input or as a later one.
abbrev pub own_entry : Bool → ClosedBlock → Entry
own_entry first block = closed_entry (block_fault first (tokens_in block)) block.line (tokens_inside first (tokens_in block))

-- Whether a command is NextProblem.
abbrev pub is_next : Option Command → Bool
is_next (Some Next) = true
is_next _ = false

-- Blocks that NextProblem closes.
abbrev pub AreNext : List ClosedBlock → Type 0
AreNext blocks = list_all (λ block. is_next (command_of block.closer)) blocks ≡ true

-- The entries of words after a closing word: after EndProblem there are none.
abbrev pub entries_after : Option Command → Words → List Entry
entries_after (Some Last) words = []
entries_after _ words = entries_of false words

-- Whether a list of blocks is empty: then the next block is the first of the input.
abbrev pub is_first : List ClosedBlock → Bool
is_first [] = true
is_first (block ∷ blocks) = false

-- The own entries of the first blocks of an input.
abbrev pub own_entries : List ClosedBlock → List Entry
own_entries [] = []
own_entries (block ∷ blocks) = own_entry true block ∷ map (own_entry false) blocks

-- There are as many own entries as blocks.
pub length-own_entries : (blocks : List ClosedBlock) → length (own_entries blocks) ≡ length blocks
length-own_entries [] = refl
length-own_entries (block ∷ blocks) = ap (λ n. suc n) (length-map blocks (own_entry false))

put_both : (xs ys : List Token) (words : Words) → put_before xs (put_before ys words) ≡ put_before (xs ++ ys) words
put_both xs ys words = ap (λ l. record { tokens = l; tail = words.tail; tail_line = words.tail_line }) (sym (append_assoc xs ys words.tokens))

by_command : (first : Bool) (block : ClosedBlock) (words : Words) (c : Option Command) → command_of block.closer ≡ c → closes c ≡ true
    → entries_of first (put_before (tokens_in block) words) ≡ own_entry first block ∷ entries_after c words
by_command first block words (Some Next) is h = next_entries first block.front block.line block.closer block.plain words is
by_command first block words (Some Last) is h = last_entries first block.front block.line block.closer block.plain words is
by_command first block words c is h = absurd (grind arith)

-- The entries of a closed block and of any words after it are its own entry, then the entries of these words, however the input ends.
pub block_and_rest : (first : Bool) (block : ClosedBlock) (words : Words)
    → entries_of first (put_before (tokens_in block) words) ≡ own_entry first block ∷ entries_after (command_of block.closer) words
block_and_rest first block words = by_command first block words (command_of block.closer) refl block.closing

next_and_rest : (first : Bool) (block : ClosedBlock) (blocks : List ClosedBlock) (words : Words) → AreNext (block ∷ blocks)
    → (entries_of first (put_before (tokens_in block) words) ≡ own_entry first block ∷ entries_of false words) × AreNext blocks
next_and_rest first block blocks words next = grind (arith, block_and_rest first block words)

-- The entries of any number of later blocks and of any words after them.
pub blocks_and_rest : (blocks : List ClosedBlock) (words : Words) → AreNext blocks
    → entries_of false (put_before (flat_map tokens_in blocks) words) ≡ map (own_entry false) blocks ++ entries_of false words
blocks_and_rest [] words next = refl
blocks_and_rest (block ∷ blocks) words next =
    let rest = put_before (flat_map tokens_in blocks) words in
    let step = next_and_rest false block blocks rest next in
    ap (entries_of false) (sym (put_both (tokens_in block) (flat_map tokens_in blocks) words))
    ∙ step.0 ∙ ap (λ entries. own_entry false block ∷ entries) (blocks_and_rest blocks words step.1)

-- The entries of an input of closed blocks and any words after them: the blocks' own entries, then the entries of the rest.
pub blocks_first : (before : List ClosedBlock) (words : Words) → AreNext before
    → entries_of true (put_before (flat_map tokens_in before) words) ≡ own_entries before ++ entries_of (is_first before) words
blocks_first [] words next = refl
blocks_first (block ∷ before) words next =
    let rest = put_before (flat_map tokens_in before) words in
    let step = next_and_rest true block before rest next in
    ap (entries_of true) (sym (put_both (tokens_in block) (flat_map tokens_in before) words))
    ∙ step.0 ∙ ap (λ entries. own_entry true block ∷ entries) (blocks_and_rest before words step.1)

-- The entries of a block that no word closes depend on its words and on how the input ends.
pub open_block : (first : Bool) (front : List Token) (tail : Tail) (line : ℕ) → list_all closes_none front ≡ true
    → entries_of first (put_before front (no_words tail line)) ≡ entries_by (block_fault first front) None first tail line front
open_block first front tail line plain = ended_entries first front tail line plain

-- The entries of an input of closed blocks, one more block and any words after it: the blocks' own entries, the block's own entry, then the entries
-- of the rest, none after EndProblem.
pub entries_are : (before : List ClosedBlock) (block : ClosedBlock) (words : Words) → AreNext before
    → entries_of true (put_before (flat_map tokens_in before) (put_before (tokens_in block) words))
    ≡ own_entries before ++ own_entry (is_first before) block ∷ entries_after (command_of block.closer) words
entries_are before block words next = blocks_first before (put_before (tokens_in block) words) next
    ∙ ap (λ entries. own_entries before ++ entries) (block_and_rest (is_first before) block words)

-- No neighbour changes an entry: whatever blocks come before a block and whatever words follow it, the item at its position is its own entry.
pub entry_is_its_own : (before : List ClosedBlock) (block : ClosedBlock) (words : Words) (d : Entry) → AreNext before
    → get_or (entries_of true (put_before (flat_map tokens_in before) (put_before (tokens_in block) words))) (length before) d
    ≡ own_entry (is_first before) block
entry_is_its_own before block words d next = ap (λ entries. get_or entries (length before) d) (entries_are before block words next)
    ∙ get_or_at (own_entries before) (own_entry (is_first before) block) (entries_after (command_of block.closer) words) d (length before)
    (length-own_entries before)
