-- The first word or text line of a view.
use Rattle.pop_text.proofs.Basics.{Bool, List, None, Some, TextLine, Token, Word, [], ap, append-nil, arith, cond, count_by, false, if◌then◌else◌, inl, inr, is_blank, is_gap, is_in_line, is_in_word, is_line_end, is_line_over, is_text_word, lines_tokens, list_all, refl, runs_of, slice_split, sum_by-append, sym, text_lines, tokens_from, tokens_of, true, ℕ, ◌&&◌, ◌++◌, ◌+◌, ◌∙◌, ◌∷◌, ◌≡◌, ◌⊎◌}

-- Lines of a view.

-- a byte of a gap is a line end or a blank
gap_byte : (b : ℕ) → is_gap b ≡ true → (is_line_end b ≡ true) ⊎ ((is_blank b ≡ true) × (is_line_end b ≡ false))
gap_byte b h = grind arith

-- a byte of a word is neither a line end nor a blank
word_byte : (b : ℕ) → is_in_word b ≡ true → (is_line_end b ≡ false) × (is_blank b ≡ false)
word_byte b h = grind arith

-- if all bytes meet the test, the first and the others do
pub all_parts : (test : ℕ → Bool) (b : ℕ) (bytes : List ℕ) → list_all test (b ∷ bytes) ≡ true → (test b ≡ true) × (list_all test bytes ≡ true)
all_parts test b bytes h = grind arith

-- a gap only counts lines
pub skip_gap : (cut : Bool) (n : ℕ) (gap view : List ℕ) → list_all is_gap gap ≡ true
    → tokens_from None cut n (gap ++ view) ≡ tokens_from None cut (n + count_by is_line_end gap) view
skip_gap cut n [] view h = ap (λ m. tokens_from None cut m view) (omega arith)
skip_gap cut n (b ∷ gap) view h =
    let p = all_parts is_gap b gap h in
    let sum : count_by is_line_end (b ∷ gap) ≡ (0 + cond (is_line_end b) 1 0) + count_by is_line_end gap =
    sum_by-append (λ x. cond (is_line_end x) 1 0) (b ∷ []) gap in
    grind (arith, gap_byte, skip_gap cut (n + cond (is_line_end b) 1 0) gap view p.1)

-- Runs of a line.

-- nothing, or a blank first
data Apart : List ℕ → Type 0 where
  nothing : Apart []
  blank : {c : ℕ} {line : List ℕ} → is_blank c ≡ true → Apart (c ∷ line)

-- the first run of a line
runs_front : (b : ℕ) (run line : List ℕ) → list_all is_in_word (b ∷ run) ≡ true → Apart line → runs_of ((b ∷ run) ++ line) ≡ (b ∷ run, line) ∷ runs_of line
runs_front b [] [] h nothing = grind (arith, word_byte)
runs_front b [] (c ∷ line) h (blank is) = grind (arith, word_byte)
runs_front b (c ∷ run) line h apart = grind (arith, word_byte, runs_front c run line)

-- Words.

-- the lines of a view in which a run just ended: nothing, if the input isn't cut, or a line end or blank first
data Over : Bool → List (List ℕ) → Type 0 where
  at_end : Over false ([] ∷ [])
  at_line_end : {cut : Bool} {m : List ℕ} {ms : List (List ℕ)} → Over cut ([] ∷ m ∷ ms)
  at_blank : {cut : Bool} {c : ℕ} {l : List ℕ} {ls : List (List ℕ)} → is_blank c ≡ true → Over cut ((c ∷ l) ∷ ls)

-- bytes of a line extend the first line of a view
line_parts : (line view : List ℕ) (l : List ℕ) (ls : List (List ℕ)) → list_all is_in_line line ≡ true → slice_split is_line_end view ≡ l ∷ ls
    → slice_split is_line_end (line ++ view) ≡ (line ++ l) ∷ ls
line_parts [] view l ls h e = e
line_parts (b ∷ line) view l ls h e = grind (arith, line_parts line view l ls)

-- bytes of a line hold no line end
pub line_lines : (line : List ℕ) → list_all is_in_line line ≡ true → count_by is_line_end line ≡ 0
line_lines [] h = refl
line_lines (b ∷ line) h = grind (arith, line_lines line)

-- a run's bytes are bytes of a line
pub solid_line : (run : List ℕ) → list_all is_in_word run ≡ true → list_all is_in_line run ≡ true
solid_line [] h = refl
solid_line (b ∷ run) h = grind (arith, word_byte, solid_line run)

-- the tokens from a run on
abbrev pub run_tokens : Bool → Bool → ℕ → List ℕ → List ℕ → List Token
run_tokens true cut n run view = tokens_from (Some run) cut n view
run_tokens false cut n run view = Word n run ∷ tokens_from None cut n view

abbrev run_lines : Bool → Bool → ℕ → List ℕ → List (List ℕ) → List Token
run_lines true cut n run parts = text_lines run cut n parts
run_lines false cut n run parts = Word n run ∷ lines_tokens cut n parts

abbrev first_tokens : Bool → Bool → ℕ → List ℕ → List ℕ → List Token
first_tokens text cut n run line = if text then (if cut then [] else TextLine n run line ∷ [])
    else (if cut && is_line_over line then [] else Word n run ∷ tokens_of cut n (runs_of line))

first_of : (cut : Bool) (n b : ℕ) (run line : List ℕ) → list_all is_in_word (b ∷ run) ≡ true → Apart line
    → tokens_of cut n (runs_of ((b ∷ run) ++ line)) ≡ first_tokens (is_text_word (b ∷ run)) cut n (b ∷ run) line
first_of cut n b run line h apart = ap (tokens_of cut n) (runs_front b run line h apart)

run_parts : (cut : Bool) (n b : ℕ) (run l : List ℕ) (ls : List (List ℕ)) → list_all is_in_word (b ∷ run) ≡ true → Over cut (l ∷ ls)
    → lines_tokens cut n (((b ∷ run) ++ l) ∷ ls) ≡ run_lines (is_text_word (b ∷ run)) cut n (b ∷ run) (l ∷ ls)
run_parts false n b run [] [] h at_end = first_of false n b run [] h nothing ∙ grind arith
run_parts true n b run [] [] h over = elim over [ ]
run_parts cut n b run [] (m ∷ ms) h at_line_end = ap (λ ts. ts ++ lines_tokens cut (n + 1) (m ∷ ms)) (first_of false n b run [] h nothing) ∙ grind arith
run_parts cut n b run (c ∷ l) [] h (at_blank is) = first_of cut n b run (c ∷ l) h (blank is) ∙ grind arith
run_parts cut n b run (c ∷ l) (m ∷ ms) h (at_blank is) =
    ap (λ ts. ts ++ lines_tokens cut (n + 1) (m ∷ ms)) (first_of false n b run (c ∷ l) h (blank is)) ∙ grind arith

-- a view in which a run just ended
pub data RunEnds : Bool → List ℕ → Type 0 where
  with_view : RunEnds false []
  with_gap : {cut : Bool} {b : ℕ} {view : List ℕ} → is_gap b ≡ true → RunEnds cut (b ∷ view)

-- the lines of a view in which a run just ended
record Parts (cut : Bool) (view : List ℕ) : Type 0 where
  first : List ℕ
  others : List (List ℕ)
  are : slice_split is_line_end view ≡ first ∷ others
  over : Over cut (first ∷ others)

abbrev Split : List ℕ → Type 0
Split view = (l : List ℕ) × (ls : List (List ℕ)) × (slice_split is_line_end view ≡ l ∷ ls)

split_cons : (b : ℕ) (view : List ℕ) → Split view → (t : Bool) → is_line_end b ≡ t → Split (b ∷ view)
split_cons b view s true h = ([], slice_split is_line_end view, rw h refl)
split_cons b view s false h = (b ∷ s.0, s.1, rw (h, s.2) refl)

split_some : (view : List ℕ) → Split view
split_some [] = ([], [], refl)
split_some (b ∷ view) = split_cons b view (split_some view) (is_line_end b) refl

parts_of : (cut : Bool) (view : List ℕ) → RunEnds cut view → Parts cut view
parts_of false [] with_view = record { first = []; others = []; are = refl; over = at_end }
parts_of true [] ends = elim ends [ ]
parts_of cut (b ∷ view) (with_gap h) =
    let s = split_some view in
    elim (gap_byte b h) [
      | inl is ↦ record { first = []; others = s.0 ∷ s.1; are = rw (is, s.2) refl; over = at_line_end }
      | inr plain ↦ record { first = b ∷ s.0; others = s.1; are = rw (plain.1, s.2) refl; over = at_blank plain.0 }
    ]

run_tokens_are : (text cut : Bool) (n : ℕ) (run view l : List ℕ) (ls : List (List ℕ)) → slice_split is_line_end view ≡ l ∷ ls
    → run_lines text cut n run (l ∷ ls) ≡ run_tokens text cut n run view
run_tokens_are text cut n run view l ls e = grind arith

-- a run that is over is the first token, or the text word of the first token
pub take_run : (cut : Bool) (n b : ℕ) (run view : List ℕ) → list_all is_in_word (b ∷ run) ≡ true → RunEnds cut view
    → tokens_from None cut n ((b ∷ run) ++ view) ≡ run_tokens (is_text_word (b ∷ run)) cut n (b ∷ run) view
take_run cut n b run view h ends =
    let p = parts_of cut view ends in
    grind (arith, line_parts (b ∷ run) view p.first p.others, solid_line (b ∷ run), p.are, run_parts, run_tokens_are)

-- a run that the end of the view cuts is no token
pub drop_run : (n : ℕ) (run : List ℕ) → list_all is_in_word run ≡ true → tokens_from None true n run ≡ []
drop_run n [] h = refl
drop_run n (b ∷ run) h =
    ap (tokens_from None true n) (sym (append-nil (b ∷ run))) ∙ ap (lines_tokens true n) (line_parts (b ∷ run) [] [] [] (solid_line (b ∷ run) h) refl)
    ∙ first_of true n b run [] h nothing ∙ grind arith

-- Text lines.

-- after a text word, a line with its line end is the first token
pub take_line : (keyword : List ℕ) (cut : Bool) (n : ℕ) (line view : List ℕ) → list_all is_in_line line ≡ true
    → tokens_from (Some keyword) cut n (line ++ 10 ∷ view) ≡ TextLine n keyword line ∷ tokens_from None cut (n + 1) view
take_line keyword cut n line view h = let s = split_some view in rw (line_parts line (10 ∷ view) [] (s.0 ∷ s.1) h (rw s.2 refl), s.2, append-nil line) refl

-- after a text word, a line without a line end is the last token if the input isn't cut, otherwise no token
pub take_last_line : (keyword : List ℕ) (cut : Bool) (n : ℕ) (line : List ℕ) → list_all is_in_line line ≡ true
    → tokens_from (Some keyword) cut n line ≡ (if cut then [] else TextLine n keyword line ∷ [])
take_last_line keyword cut n line h = grind (arith, append-nil, line_parts line [] [] [])
