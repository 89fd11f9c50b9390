-- The words of some lines of an input depend only on these lines, apart from their line numbers.
use Rattle.pop_input.proofs.Words.{Clean, Input, List, None, Words, [], ap, append-nil, append_assoc, arith, cond, count_by, drop_all, inl, inr, is_line_end, length, length-append, limit, no_words, put_before, refl, sym, words_by, words_from, words_of, ℕ, ◌++◌, ◌+◌, ◌-◌, ◌<◌, ◌∙◌, ◌∷◌, ◌≡◌, ◌≤◌, ◌⊎◌}
use Rattle.std.proofs.lemmas.List.{take_all}
use Rattle.pop_text.specs.Words.{End, tail_of}
use Rattle.std.proofs.lemmas.List.Sums.{sum_by-append}
use Rattle.pop_input.proofs.Pieces.{tokens_at, words_after, words_from_after}

-- Whole lines: no byte, or bytes that end with a line end.
abbrev pub AreWholeLines : List ℕ → Type 0
AreWholeLines lines = (lines ≡ []) ⊎ ((front : List ℕ) × (lines ≡ front ++ 10 ∷ []))

-- A line is over before these last bytes of an input: they begin with a line end, or there are none and the input ends cleanly.
abbrev pub IsLineOver : Input → List ℕ → Type 0
IsLineOver input following = ((rest : List ℕ) × (following ≡ 10 ∷ rest)) ⊎ ((following ≡ []) × (input.ending ≡ Clean))

-- The number of the line after whole lines.
abbrev pub line_after : List ℕ → ℕ
line_after lines = 1 + count_by is_line_end lines

-- What comes after whole lines, as an input of its own.
abbrev pub rest_of : Input → List ℕ → Input
rest_of input rest = record { bytes = rest; ending = input.ending }

-- whole lines have the same words without their last line end
last_end : (front : List ℕ) → tokens_at 1 (front ++ 10 ∷ []) ≡ tokens_at 1 front
last_end front = ap (λ (w : Words). w.tokens) (words_after 1 front [] End) ∙ append-nil (tokens_at 1 front)

count_end : (front : List ℕ) → count_by is_line_end (front ++ 10 ∷ []) ≡ count_by is_line_end front + 1
count_end front = sum_by-append (λ b. cond (is_line_end b) 1 0) front (10 ∷ [])

-- The words of an input of whole lines and a rest: the words of the lines, then the words of the rest, with line numbers that continue and a limit
-- that is lower by the length of the lines.
pub words_of_lines_and_rest : (input : Input) (lines rest : List ℕ) → input.bytes ≡ lines ++ rest → AreWholeLines lines → length lines ≤ limit
    → words_of input ≡ put_before (tokens_at 1 lines) (words_from None (limit - length lines) (line_after lines) (rest_of input rest))
words_of_lines_and_rest input lines rest is (inl none) few = grind arith
words_of_lines_and_rest input lines rest is (inr (front, whole)) few =
    let size : length lines ≡ length front + 1 = grind (arith, length-append) in
    let parts : input.bytes ≡ front ++ 10 ∷ rest = is ∙ rw (whole, append_assoc) refl in
    let number : 1 + (count_by is_line_end front + 1) ≡ line_after lines = rw (whole, count_end front) refl in
    words_from_after limit 1 input front rest parts (omega (arith, size, few))
    ∙ rw (number, sym size) (ap (λ tokens. put_before tokens (words_from None (limit - length lines) (line_after lines) (rest_of input rest)))
    (sym (ap (tokens_at 1) whole ∙ last_end front)))

-- the words of a line's own bytes, and words after them
own_words : (room n : ℕ) (input : Input) (own following : List ℕ) → input.bytes ≡ own ++ following → IsLineOver input following → length own < room
    → (words : Words) × (words_from None room n input ≡ put_before (tokens_at n own) words)
own_words room n input own following is (inl (rest, over)) few = (
  words_from None (room - (length own + 1)) (n + (count_by is_line_end own + 1)) (rest_of input rest),
  words_from_after room n input own rest (is ∙ ap (λ
      bytes. own ++ bytes) over) few,
)
own_words room n input own following is (inr (over, clean)) few =
    (no_words End (n + count_by is_line_end own), grind (arith, append-nil, take_all, drop_all))

-- The words of an input of whole lines, a line and a rest: the words of the lines before, the line's own words with line numbers that continue, and
-- then the words of the rest.
pub words_of_lines_and_own : (input : Input) (lines own following : List ℕ) → input.bytes ≡ lines ++ (own ++ following) → AreWholeLines lines
    → IsLineOver input following → length lines + length own < limit
    → (words : Words) × (words_of input ≡ put_before (tokens_at 1 lines) (put_before (tokens_at (line_after lines) own) words))
words_of_lines_and_own input lines own following is whole over few =
    let room = limit - length lines in
    let own_ones = own_words room (line_after lines) (rest_of input (own ++ following)) own following refl over (omega (arith, few)) in (
      own_ones.0,
      words_of_lines_and_rest input lines (own ++ following) is whole (omega (arith, few)) ∙ ap (put_before (tokens_at 1 lines)) own_ones.1,
    )

-- The words of the last bytes of an input, after any whole lines, are the words of these bytes alone.
pub words_of_last : (room n : ℕ) (input : Input) → length input.bytes ≤ room
    → words_from None room n input ≡ words_by None n input.bytes (tail_of [] input.ending)
words_of_last room n input few = grind (arith, take_all, drop_all)
