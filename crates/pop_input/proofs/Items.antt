-- A block while it is read, and the item at its end.
use Rattle.pop_input.proofs.Words.{Block, Bool, Command, IsNew, List, None, Option, Reading, ReadsWord, Some, Draft, Takes, TakesLine, TakesPart, TextLine, TextWord, Word, WordTooLong, [], among, ap, arith, at_line, block_fault, closes, closes_none, command_of, false, fault_at, fault_of, has_begun, inr, last_of, last_text, length, list_all, list_all-append, lt-ltb, no_short_form, noted_text, or_else, refl, section_of, sym, takes_none, text_of_line, text_word_of, tokens_inside, true, ℕ, ◌++◌, ◌<◌, ◌∙◌, ◌∷◌, ◌≡◌, ◌≤◌, ◌⊎◌}
use Rattle.pop_text.specs.Words.{Token}
use Rattle.pop_input.specs.declared.names.TextWord.TheVariants.{Title, Author}
use Rattle.pop_input.proofs.Taking.{takes_then}
use Rattle.pop_input.proofs.Blocks.{said, block_more, block_line, begun_word, begun_line, inside_more, inside_none, inside_first, said_more, words_line, text_more, text_line}

-- what a block says of its tokens
pub record Reports (first : Bool) (block : Block) (done : List Token) : Type 0 where
  pub begun : block.begun ≡ has_begun first done
  pub draft : block.draft ≡ said first done
  pub title : block.title ≡ last_text Title [] (tokens_inside first done)
  pub author : block.author ≡ last_text Author [] (tokens_inside first done)

-- these tokens of the block are read, and it says what they say
pub record BlockSoFar (first : Bool) (old new : Reading) (had left : Option (List ℕ)) (block : Block) : Type 0 where
  pub done : List Token
  pub takes : Takes (among old) (among new) had left done
  pub plain : list_all closes_none done ≡ true
  pub fault : block.fault ≡ block_fault first done
  pub reported : block.fault ≡ None → Reports first block done
  pub on : old.used ≤ new.used
  pub further : block.fault ≡ None ⊎ (old.used < new.used)

-- when a block begins, no token of it is read
pub block_starts : (first : Bool) (context : Reading) (had : Option (List ℕ)) (block : Block) → IsNew first block
    → BlockSoFar first context context had had block
block_starts first context had block n = grind (arith, takes_none)

-- if neither of two values is there, the first isn't
or_first : {A : Type 0} (a b : Option A) → or_else a b ≡ None → a ≡ None
or_first a b h = grind arith

-- a word that is too long is no command
long_no_command : (text : List ℕ) → 160 < length text → command_of text ≡ None
unfolding command_of section_of
long_no_command text long = grind (arith, no_short_form)

-- the fault of a word that is too long
pub long_fault : (begun : Bool) (draft : Draft) (text : List ℕ) → 160 < length text → fault_of begun draft text ≡ Some WordTooLong
long_fault begun draft text long = rw (lt-ltb 160 (length text) long) refl

-- The texts after one more token.

title_line : (first : Bool) (done : List Token) (line : ℕ) (name rest : List ℕ) (keyword : TextWord) (text had : List ℕ) (begun : Bool)
    → begun ≡ has_begun first done → text_word_of name ≡ Some keyword → text ≡ text_of_line rest → had ≡ last_text Title [] (tokens_inside first done)
    → noted_text begun Title had keyword text ≡ last_text Title [] (tokens_inside first (done ++ TextLine line name rest ∷ []))
title_line first done line name rest keyword text had begun at is bytes before = grind (arith, text_line, inside_more, inside_none, inside_first)

author_line : (first : Bool) (done : List Token) (line : ℕ) (name rest : List ℕ) (keyword : TextWord) (text had : List ℕ) (begun : Bool)
    → begun ≡ has_begun first done → text_word_of name ≡ Some keyword → text ≡ text_of_line rest → had ≡ last_text Author [] (tokens_inside first done)
    → noted_text begun Author had keyword text ≡ last_text Author [] (tokens_inside first (done ++ TextLine line name rest ∷ []))
author_line first done line name rest keyword text had begun at is bytes before = grind (arith, text_line, inside_more, inside_none, inside_first)

words_inside : (first : Bool) (done : List Token) (line : ℕ) (name rest : List ℕ) (begun : Bool) → begun ≡ has_begun first done
    → said first done ≡ said first (done ++ TextLine line name rest ∷ [])
words_inside first done line name rest begun at = grind (arith, words_line, inside_more, inside_none, inside_first)

module _ (first : Bool) (old mid new : Reading) (had met left : Option (List ℕ)) (block next : Block) (b : BlockSoFar first old mid had met block) where
  -- the block's tokens are taken, and one more
  pub takes_more : (part : Token) → TakesPart mid new met left part → Takes (among old) (among new) had left (b.done ++ part ∷ [])
  takes_more part t = takes_then (among old) (among mid) (among new) had met left b.done (part ∷ []) b.takes t.0

  goes_on : (part : Token) → TakesPart mid new met left part → old.used < new.used
  goes_on part t = let on = b.on in let step = t.1.0 in omega (arith, on, step)

  -- a text line
  pub line_read : (line : ℕ) (name rest : List ℕ) (keyword : TextWord) (text : List ℕ) → TakesPart mid new met left (TextLine line name rest)
      → text_word_of name ≡ Some keyword → text ≡ text_of_line rest → TakesLine block next keyword text → BlockSoFar first old new had left next
  line_read line name rest keyword text t is bytes n = record {
    done = b.done ++ TextLine line name rest ∷ [];
    takes = takes_more (TextLine line name rest) t;
    plain = grind (arith, list_all-append);
    fault = n.fault ∙ b.fault ∙ sym (block_line first b.done line name rest);
    reported = grind (arith, begun_line, words_inside, title_line, author_line);
    on = let h = goes_on (TextLine line name rest) t in omega (arith, h);
    further = inr (goes_on (TextLine line name rest) t);
  }

  module _ (line : ℕ) (text : List ℕ) (fault : next.fault ≡ or_else block.fault (at_line line (fault_of block.begun block.draft text)))
      (r : next.fault ≡ None → ReadsWord block next line text) where
    -- a word, the closing one too
    pub word_read : (next.fault ≡ block_fault first (b.done ++ Word line text ∷ [])) × (next.fault ≡ None → Reports first next (b.done ++ Word line text ∷ []))
    word_read = grind (arith, block_more, or_first, begun_word, text_more, inside_more, inside_none, inside_first, said_more)

    -- a word that does not close the block
    pub open_read : TakesPart mid new met left (Word line text) → closes (command_of text) ≡ false → BlockSoFar first old new had left next
    open_read t is = record {
      done = b.done ++ Word line text ∷ [];
      takes = takes_more (Word line text) t;
      plain = grind (arith, list_all-append);
      fault = word_read.0;
      reported = word_read.1;
      on = let h = goes_on (Word line text) t in omega (arith, h);
      further = inr (goes_on (Word line text) t);
    }

  -- a word that was too long
  pub long_read : (line : ℕ) (text : List ℕ) → TakesPart mid new met left (Word line text) → 160 < length text
      → next.fault ≡ or_else block.fault (Some (fault_at WordTooLong line)) → BlockSoFar first old new had left next
  long_read line text t long fault = open_read line text
      (fault ∙ ap (λ n. or_else block.fault (at_line line n)) (sym (long_fault block.begun block.draft text long)))
      (λ none. absurd (grind arith)) t (ap closes (long_no_command text long))

-- a word that closes no item closes no block
pub not_closing : (c : Option Command) → last_of c ≡ None → closes c ≡ false
not_closing c h = grind arith
