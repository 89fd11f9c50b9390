-- Blocks token by token.
use Rattle.pop_input.proofs.Words.{Bool, Command, List, None, Some, Draft, Tail, TextLine, TextWord, Token, Word, Words, [], append-nil, ap, append_assoc, arith, at_line, before_blocks, block_entries, block_fault, blocks_of, closed_entry, closes, closes_none, closing_line, closing_of, command_of, entries_by, entries_of, false, fault_of, first_fault, fold, has_begun, last_text, line_of, list_all, no_words, or_else, put_before, refl, draft_after, draft_of, text_after, text_word_of, tokens_inside, true, words_in, ℕ, ◌++◌, ◌∷◌, ◌≡◌}
use Rattle.pop_input.specs.declared.names.Command.TheVariants.{Next, Last}

-- One more token.

-- the first fault after one more word: an earlier fault, or the fault of the word
fault_more : (draft : Draft) (done : List Token) (line : ℕ) (text : List ℕ)
    → first_fault draft (done ++ Word line text ∷ [])
    ≡ or_else (first_fault draft done) (at_line line (fault_of true (fold draft_after draft (words_in done)) text))
fault_more draft [] line text = grind arith
fault_more draft (Word l t ∷ done) line text = grind (arith, fault_more (draft_after draft t) done line text)
fault_more draft (TextLine l k t ∷ done) line text = fault_more draft done line text

fault_line : (draft : Draft) (done : List Token) (line : ℕ) (keyword text : List ℕ)
    → first_fault draft (done ++ TextLine line keyword text ∷ []) ≡ first_fault draft done
fault_line draft [] line keyword text = refl
fault_line draft (Word l t ∷ done) line keyword text = grind (arith, fault_line (draft_after draft t) done line keyword text)
fault_line draft (TextLine l k t ∷ done) line keyword text = fault_line draft done line keyword text

-- what the tokens of a block say
abbrev pub said : Bool → List Token → Draft
said first done = draft_of (words_in (tokens_inside first done))

-- one more word of a block
pub block_more : (first : Bool) (done : List Token) (line : ℕ) (text : List ℕ)
    → block_fault first (done ++ Word line text ∷ []) ≡ or_else (block_fault first done) (at_line line (fault_of (has_begun first done) (said first done) text))
block_more first [] line text = grind arith
block_more first (token ∷ done) line text = grind (arith, fault_more, block_more first done line text)

-- one more text line of a block brings no fault
pub block_line : (first : Bool) (done : List Token) (line : ℕ) (keyword text : List ℕ)
    → block_fault first (done ++ TextLine line keyword text ∷ []) ≡ block_fault first done
block_line first [] line keyword text = grind arith
block_line first (token ∷ done) line keyword text = grind (arith, fault_line, block_line first done line keyword text)

-- a problem has begun once a word has come
pub begun_word : (first : Bool) (done : List Token) (line : ℕ) (text : List ℕ) → has_begun first (done ++ Word line text ∷ []) ≡ true
begun_word first [] line text = grind arith
begun_word first (token ∷ done) line text = grind (arith, begun_word first done line text)

-- a text line begins no problem
pub begun_line : (first : Bool) (done : List Token) (line : ℕ) (keyword text : List ℕ)
    → has_begun first (done ++ TextLine line keyword text ∷ []) ≡ has_begun first done
begun_line first [] line keyword text = grind arith
begun_line first (token ∷ done) line keyword text = grind (arith, begun_line first done line keyword text)

-- in a problem each token is inside
pub inside_more : (first : Bool) (done : List Token) (token : Token) → has_begun first done ≡ true
    → tokens_inside first (done ++ token ∷ []) ≡ tokens_inside first done ++ token ∷ []
inside_more first [] token h = grind arith
inside_more first (other ∷ done) token h = grind (arith, inside_more first done token)

-- before the first problem no token is inside
pub inside_none : (first : Bool) (done : List Token) → has_begun first done ≡ false → tokens_inside first done ≡ []
inside_none first [] h = grind arith
inside_none first (token ∷ done) h = grind (arith, inside_none first done)

-- the word that begins the first problem isn't inside
pub inside_first : (first : Bool) (done : List Token) (token : Token) → has_begun first done ≡ false → tokens_inside first (done ++ token ∷ []) ≡ []
inside_first first [] token h = grind arith
inside_first first (other ∷ done) token h = grind (arith, inside_first first done token)

-- one more word is said last
pub said_more : (draft : Draft) (done : List Token) (line : ℕ) (text : List ℕ)
    → fold draft_after draft (words_in (done ++ Word line text ∷ [])) ≡ draft_after (fold draft_after draft (words_in done)) text
said_more draft [] line text = refl
said_more draft (Word l t ∷ done) line text = said_more (draft_after draft t) done line text
said_more draft (TextLine l k t ∷ done) line text = said_more draft done line text

-- a text line adds no word
pub words_line : (done : List Token) (line : ℕ) (keyword text : List ℕ) → words_in (done ++ TextLine line keyword text ∷ []) ≡ words_in done
words_line [] line keyword text = refl
words_line (Word l t ∷ done) line keyword text = ap (λ words. t ∷ words) (words_line done line keyword text)
words_line (TextLine l k t ∷ done) line keyword text = words_line done line keyword text

-- a word changes neither title nor author
pub text_more : (wanted : TextWord) (old : List ℕ) (done : List Token) (line : ℕ) (text : List ℕ)
    → last_text wanted old (done ++ Word line text ∷ []) ≡ last_text wanted old done
text_more wanted old [] line text = refl
text_more wanted old (Word l t ∷ done) line text = text_more wanted old done line text
text_more wanted old (TextLine l k t ∷ done) line text = text_more wanted (text_after wanted old (text_word_of k) t) done line text

-- a text line replaces the text that it names
pub text_line : (wanted : TextWord) (old : List ℕ) (done : List Token) (line : ℕ) (keyword text : List ℕ)
    → last_text wanted old (done ++ TextLine line keyword text ∷ []) ≡ text_after wanted (last_text wanted old done) (text_word_of keyword) text
text_line wanted old [] line keyword text = refl
text_line wanted old (Word l t ∷ done) line keyword text = text_line wanted old done line keyword text
text_line wanted old (TextLine l k t ∷ done) line keyword text = text_line wanted (text_after wanted old (text_word_of k) t) done line keyword text

-- Cutting.

open_parts : (token : Token) (done : List Token) → list_all closes_none (token ∷ done) ≡ true → (closes_none token ≡ true) × (list_all closes_none done ≡ true)
open_parts token done h = grind arith

-- open tokens are in the first block
blocks_open : (done tokens : List Token) → list_all closes_none done ≡ true → (b : List Token) (bs : List (List Token)) → blocks_of tokens ≡ b ∷ bs
    → blocks_of (done ++ tokens) ≡ (done ++ b) ∷ bs
blocks_open [] tokens h b bs e = e
blocks_open (token ∷ done) tokens h b bs e = grind (arith, open_parts, blocks_open done tokens (open_parts token done h).1 b bs e)

-- no line closes open tokens
open_line : (done : List Token) → list_all closes_none done ≡ true → closing_line done ≡ None
open_line [] h = refl
open_line (token ∷ done) h = grind (arith, open_line done)

-- the closing word's line closes its block
closed_line : (done : List Token) (token : Token) → closes (closing_of token) ≡ true → closing_line (done ++ token ∷ []) ≡ Some (line_of token)
closed_line [] token h = grind arith
closed_line (other ∷ done) token h = grind (arith, closed_line done token h)

-- Entries.

module _ (first : Bool) (done : List Token) (line : ℕ) (text : List ℕ) (plain : list_all closes_none done ≡ true) (words : Words) where
  abbrev block : List Token
  block = done ++ Word line text ∷ []

  closing_blocks : (c : Command) → command_of text ≡ Some c → closes (Some c) ≡ true → (bs : List (List Token))
      → before_blocks (Some c) (Word line text) (blocks_of words.tokens) ≡ (Word line text ∷ []) ∷ bs → blocks_of (block ++ words.tokens) ≡ block ∷ bs
  closing_blocks c is h bs e = grind (arith, append_assoc, blocks_open done (Word line text ∷ words.tokens) plain (Word line text ∷ []) bs)

  closing_entries : (c : Command) → command_of text ≡ Some c → closes (Some c) ≡ true → (bs : List (List Token))
      → before_blocks (Some c) (Word line text) (blocks_of words.tokens) ≡ (Word line text ∷ []) ∷ bs
      → entries_of first (put_before block words) ≡ closed_entry (block_fault first block) line (tokens_inside first block)
      ∷ block_entries false words.tail words.tail_line bs
  closing_entries c is h bs e = grind (arith, closing_blocks c is h bs e, closed_line done (Word line text))

  -- NextProblem ends a block, and the next one follows
  pub next_entries : command_of text ≡ Some Next → entries_of first (put_before block words)
      ≡ closed_entry (block_fault first block) line (tokens_inside first block) ∷ entries_of false words
  next_entries is = closing_entries Next is refl (blocks_of words.tokens) refl

  -- EndProblem ends the last
  pub last_entries : command_of text ≡ Some Last → entries_of first (put_before block words)
      ≡ closed_entry (block_fault first block) line (tokens_inside first block) ∷ []
  last_entries is = closing_entries Last is refl [] refl

-- an input that ends in a block
pub ended_entries : (first : Bool) (done : List Token) (tail : Tail) (line : ℕ) → list_all closes_none done ≡ true
    → entries_of first (put_before done (no_words tail line)) ≡ entries_by (block_fault first done) None first tail line done
ended_entries first done tail line plain = grind (arith, blocks_open done [] plain [] [], append-nil {A = Token}, open_line done plain)
