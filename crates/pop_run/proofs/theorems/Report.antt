-- The report of an input is the texts of its items joined. Each text depends on its own block and its number: no neighbour changes it. `text` is the text
-- of an item, by its number: for `pops` it is `entry_text choice`.
use Rattle.pop_run.proofs.Basics.{Entry, Input, ItemText, List, None, Words, [], ap, arith, drop, entries_in, entries_of, enumerate_from, flat_map, get_or, length, limit, map, put_before, refl, report_by, report_from, sym, words_from, words_of, ℕ, ◌++◌, ◌+◌, ◌-◌, ◌<◌, ◌∙◌, ◌∷◌, ◌≡◌, ◌≤◌}
use Rattle.pop_run.proofs.Running.{report-append}
use Rattle.pop_input.proofs.theorems.Entries.{AreNext, ClosedBlock, blocks_first, entries_are, entries_after, is_first, length-own_entries, own_entries, own_entry, tokens_in}
use Rattle.pop_input.proofs.Pieces.{tokens_at}
use Rattle.pop_input.proofs.theorems.Inputs.{AreWholeLines, IsLineOver, line_after, rest_of, words_of_last, words_of_lines_and_own, words_of_lines_and_rest}
use Rattle.pop_text.specs.Words.{tail_of, words_by}
use Rattle.pop_input.specs.Names.{command_of}

same_first : (xs ys : List ClosedBlock) → length xs ≡ length ys → is_first xs ≡ is_first ys
same_first [] [] e = refl
same_first (x ∷ xs) (y ∷ ys) e = refl
same_first [] (y ∷ ys) e = absurd (omega (arith, e))
same_first (x ∷ xs) [] e = absurd (omega (arith, e))

module _ (text : ItemText) where
  -- The texts of items, the first with this number.
  abbrev pub texts_from : ℕ → List Entry → List (List ℕ)
  texts_from number entries = map (λ item. text item.0 item.1) (enumerate_from number entries)

  -- The texts of an input's items, numbered from 1.
  abbrev pub texts : Input → List (List ℕ)
  texts input = texts_from 1 (entries_in input)

  -- The report of items is their texts joined.
  pub report_from_is_texts : (number : ℕ) (entries : List Entry) → report_from text number entries ≡ flat_map (λ bytes. bytes) (texts_from number entries)
  report_from_is_texts number [] = refl
  report_from_is_texts number (entry ∷ entries) = ap (λ r. text number entry ++ r) (report_from_is_texts (number + 1) entries)

  -- The report of an input is the texts of its items joined.
  pub report_is_texts : (input : Input) → report_by text input ≡ flat_map (λ bytes. bytes) (texts input)
  report_is_texts input = report_from_is_texts 1 (entries_in input)

  -- The report of two lists of items joined is the report of the first, then the report of the second, with numbers that continue.
  pub report_of_both : (number : ℕ) (first others : List Entry)
      → report_from text number (first ++ others) ≡ report_from text number first ++ report_from text (number + length first) others
  report_of_both number first others = report-append text number first others

  text_after : (number : ℕ) (first : List Entry) (entry : Entry) (others : List Entry)
      → get_or (texts_from number (first ++ entry ∷ others)) (length first) [] ≡ text (number + length first) entry
  text_after number [] entry others = let e : number + 0 ≡ number = omega arith in rw e refl
  text_after number (other ∷ first) entry others = grind (arith, text_after (number + 1) first entry others)

  texts_after : (number : ℕ) (first others : List Entry)
      → drop (length first) (texts_from number (first ++ others)) ≡ texts_from (number + length first) others
  texts_after number [] others = let e : number + 0 ≡ number = omega arith in rw e refl
  texts_after number (other ∷ first) others = grind (arith, texts_after (number + 1) first others)

  -- The report of an input of blocks that NextProblem closes, one more closed block and any words after it: the report of the blocks before; the text
  -- of the block's own entry, with its number; then the report of the rest, none after EndProblem.
  pub report_around_a_block : (input : Input) (before : List ClosedBlock) (block : ClosedBlock) (words : Words) → AreNext before
      → words_of input ≡ put_before (flat_map tokens_in before) (put_before (tokens_in block) words)
      → report_by text input
      ≡ report_from text 1 (own_entries before) ++ (text (1 + length before) (own_entry (is_first before) block)
      ++ report_from text (1 + length before + 1) (entries_after (command_of block.closer) words))
  unfolding entries_in
  report_around_a_block input before block words next are = grind (arith, entries_are, report_of_both, length-own_entries)

  -- In an input of blocks, one more closed block and any words after it, the text at the block's position is the text of its own entry.
  pub text_of_a_block : (input : Input) (before : List ClosedBlock) (block : ClosedBlock) (words : Words) → AreNext before
      → words_of input ≡ put_before (flat_map tokens_in before) (put_before (tokens_in block) words)
      → get_or (texts input) (length before) [] ≡ text (1 + length before) (own_entry (is_first before) block)
  unfolding entries_in
  text_of_a_block input before block words next are = grind (arith, entries_are before block words next, length-own_entries before, text_after)

  -- No neighbour changes a text: if two inputs have equally many blocks before one block with the same lines, its text is the same in both, whatever
  -- the blocks before are, whatever words follow, and however the inputs end.
  pub text_is_its_own : (input other : Input) (before instead : List ClosedBlock) (block : ClosedBlock) (words after : Words) → AreNext before → AreNext instead
      → words_of input ≡ put_before (flat_map tokens_in before) (put_before (tokens_in block) words)
      → words_of other ≡ put_before (flat_map tokens_in instead) (put_before (tokens_in block) after) → length before ≡ length instead
      → get_or (texts input) (length before) [] ≡ get_or (texts other) (length instead) []
  text_is_its_own input other before instead block words after next these are is as_many =
      grind (arith, text_of_a_block input before block words next are, text_of_a_block other instead block after these is)

  -- No neighbour's bytes change a text: some lines hold a block. Change the bytes before and after them in any way that keeps the number of blocks and
  -- of line ends before them. The text of the block stays the same. The lines may be the first of the input, its last, or all.
  pub bytes_around_change_nothing : (input other : Input) (lines instead own rest after : List ℕ) (before those : List ClosedBlock) (block : ClosedBlock)
      → input.bytes ≡ lines ++ (own ++ rest) → other.bytes ≡ instead ++ (own ++ after) → AreWholeLines lines → AreWholeLines instead
      → IsLineOver input rest → IsLineOver other after → length lines + length own < limit → length instead + length own < limit
      → AreNext before → AreNext those → tokens_at 1 lines ≡ flat_map tokens_in before → tokens_at 1 instead ≡ flat_map tokens_in those
      → length before ≡ length those → line_after lines ≡ line_after instead → tokens_at (line_after lines) own ≡ tokens_in block
      → get_or (texts input) (length before) [] ≡ get_or (texts other) (length those) []
  bytes_around_change_nothing input other lines instead own rest after before those block here there whole wholes over overs small fits next these
      first second as_many level is =
      let w = words_of_lines_and_own input lines own rest here whole over small in
      let v = words_of_lines_and_own other instead own after there wholes overs fits in
      text_is_its_own input other before those block w.0 v.0 next these (w.1 ∙ rw (first, is) refl) (v.1 ∙ rw (second, sym level, is) refl) as_many

  texts_of_rest : (input : Input) (before : List ClosedBlock) (words : Words) → AreNext before → words_of input ≡ put_before (flat_map tokens_in before) words
      → drop (length before) (texts input) ≡ texts_from (1 + length before) (entries_of (is_first before) words)
  unfolding entries_in
  texts_of_rest input before words next are =
      grind (arith, blocks_first before words next, length-own_entries before, texts_after 1 (own_entries before))

  -- The texts of all items after some blocks depend on their own words: if two inputs have equally many blocks before the same words and end alike,
  -- these texts are the same, also the text of an item in which the input ends or breaks off.
  pub texts_are_their_own : (input other : Input) (before instead : List ClosedBlock) (words : Words) → AreNext before → AreNext instead
      → words_of input ≡ put_before (flat_map tokens_in before) words → words_of other ≡ put_before (flat_map tokens_in instead) words
      → length before ≡ length instead → drop (length before) (texts input) ≡ drop (length instead) (texts other)
  texts_are_their_own input other before instead words next these are is as_many = texts_of_rest input before words next are
      ∙ rw (as_many, same_first before instead as_many) refl ∙ sym (texts_of_rest other instead words these is)

  -- Earlier bytes change no later text: change the bytes before the last lines of an input in any way that keeps the number of blocks and of line ends
  -- before them. The texts of all items in these lines stay the same, however they end.
  pub bytes_before_change_nothing : (input other : Input) (lines instead own : List ℕ) (before those : List ClosedBlock)
      → input.bytes ≡ lines ++ own → other.bytes ≡ instead ++ own → input.ending ≡ other.ending → AreWholeLines lines → AreWholeLines instead
      → length lines + length own ≤ limit → length instead + length own ≤ limit → AreNext before → AreNext those
      → tokens_at 1 lines ≡ flat_map tokens_in before → tokens_at 1 instead ≡ flat_map tokens_in those → length before ≡ length those
      → line_after lines ≡ line_after instead → drop (length before) (texts input) ≡ drop (length those) (texts other)
  bytes_before_change_nothing input other lines instead own before those here there alike whole wholes small fits next these first second as_many level =
      let number = line_after lines in
      let w = words_of_lines_and_rest input lines own here whole (omega (arith, small)) in
      let v = words_of_lines_and_rest other instead own there wholes (omega (arith, fits)) in
      let here_last = words_of_last (limit - length lines) number (rest_of input own) (omega (arith, small)) in
      let there_last = words_of_last (limit - length instead) (line_after instead) (rest_of other own) (omega (arith, fits)) in
      let last = there_last ∙ ap (λ n. words_by None n own (tail_of [] other.ending)) (sym level)
      ∙ ap (λ ending. words_by None number own (tail_of [] ending)) (sym alike) ∙ sym here_last in
      let words = words_from None (limit - length lines) number (rest_of input own) in
      texts_are_their_own input other before those words next these (w ∙ ap (λ tokens. put_before tokens words) first)
      (v ∙ ap (put_before (tokens_at 1 instead)) last ∙ ap (λ tokens. put_before tokens words) second) as_many
