-- Which words used bytes take from the words still to come.
use Rattle.pop_text.proofs.Basics.{Bool, Device, Err, Input, InputTooLong, IsOver, IsRunOver, List, Long, MayFollow, NextWord, None, Ok, Option, ComesNext, ReadFault, Reading, RestOfLine, Result, Some, HoldsAfterWord, Tail, Takes, TakesNone, TakesWord, Text, TextLine, Token, TooLong, Uses, UsesAll, UsesLine, UsesRun, UsesWhole, UsesWord, Word, Words, [], among, ap, append-nil, append_assoc, arith, after_word, cond, count_by, onto_input}
use Rattle.pop_text.proofs.Basics.{drop, drop-append-add, drop-nil, false, inl, inr, is_cut, is_gap, is_in_line, is_in_word, is_line_end, is_short_form, is_text_word, length, length-append, length-map, limit, list_all, nat_eq, refl, starts_with, sum_by-append, tail_of, take, take-append-add, take-nil, tokens_from, true, words_by, words_left, ℕ, ◌&&◌, ◌++◌, ◌+◌, ◌-◌, ◌<◌, ◌∙◌, ◌∷◌, ◌≡◌, ◌≤◌}
use Rattle.pop_text.specs.Words.{End as AtEnd, Broken as Failing}
use Rattle.pop_text.proofs.WordLaws.{skip_gap, take_run, drop_run, take_line, take_last_line, run_tokens, RunEnds, with_view, with_gap, line_lines, solid_line}
use Rattle.pop_text.specs.declared.word.Word.{Word as Read}

-- A word that is too long is no text word.

-- a test with a false part fails
pub and_false : (x : Bool) → (x && false) ≡ false
and_false x = grind arith

-- a name doesn't begin with a word longer than itself
pub longer : (name word : List ℕ) → length name < length word → starts_with nat_eq name word ≡ false
longer [] [] less = absurd (omega arith)
longer [] (b ∷ word) less = refl
longer (a ∷ name) [] less = absurd (omega arith)
longer (a ∷ name) (b ∷ word) less = grind (arith, and_false, longer name word (omega arith))

-- a word longer than a name is no short form of it
pub no_short_form : (name word : List ℕ) → length name < length word → is_short_form name word ≡ false
no_short_form name word less = grind (arith, longer, length-map, and_false)

-- Views.

-- the view in a state of the scanner, if the source continues with this rest
abbrev pub view_at : Reading → Input → List ℕ
view_at place rest = take (limit - place.used) (place.window ++ rest.bytes)

-- how the view ends
abbrev pub tail_at : Reading → Input → Tail
tail_at place rest = tail_of (drop (limit - place.used) (place.window ++ rest.bytes)) rest.ending

same_words : (ts us : List Token) (tail : Tail) (l m : ℕ) → ts ≡ us → l ≡ m
    → ◌≡◌ {A = Words} (record { tokens = ts; tail = tail; tail_line = l }) (record { tokens = us; tail = tail; tail_line = m })
same_words ts us tail l m e f = rw (e, f) refl

-- line numbers continue by the line ends of one text after another
pub count_then : (line : ℕ) (xs ys : List ℕ) → line + count_by is_line_end (xs ++ ys) ≡ (line + count_by is_line_end xs) + count_by is_line_end ys
count_then line xs ys = omega (arith, sum_by-append (λ x. cond (is_line_end x) 1 0) xs ys)

module _ {old new : Reading} {had left : Option (List ℕ)} {used : List ℕ} (u : Uses old new had left used) (within : new.used ≤ limit)
    (b c : Option (List ℕ)) where
  -- used bytes are a prefix of the view
  left_is : (rest : Input) → words_left b old (onto_input u.taken rest) ≡ words_by b old.line (used ++ view_at new rest) (tail_at new rest)
  left_is rest = grind (arith, append_assoc, take-append-add, drop-append-add)

  -- used bytes take their tokens, whatever follows them
  pub takes : (tokens : List Token) → ((rest : Input) → MayFollow new.end rest
      → tokens_from b (is_cut (tail_at new rest)) old.line (used ++ view_at new rest) ≡ tokens ++ tokens_from c (is_cut (tail_at new rest)) new.line (view_at
      new rest)) → Takes (record { following = b; at = old }) (record { following = c; at = new }) had left tokens
  takes tokens say = record {
    bytes = u.taken;
    taken = u.consumed;
    follows = λ rest may. grind arith;
    begin = λ rest may. left_is rest ∙ same_words _ _ (tail_at new rest) _ _ (say rest may)
        (omega (arith, u.line, count_then old.line used (view_at new rest)));
    amount = omega (arith, u.used, ap length u.unread, length-append old.window u.taken, length-append used new.window);
  }

-- States in which nothing more can be read.

-- the view is empty and ends in this way
abbrev Stops : Reading → Tail → Type 0
Stops place tail = (rest : Input) → MayFollow place.end rest → (view_at place rest ≡ []) × (tail_at place rest ≡ tail)

full_view : (n : ℕ) (window : List ℕ) (rest : Input) → n ≡ 0 → 0 < length window
    → (take n (window ++ rest.bytes) ≡ []) × (tail_of (drop n (window ++ rest.bytes)) rest.ending ≡ Long)
full_view n [] rest z some = absurd (omega arith)
full_view n (b ∷ window) rest z some = rw z (refl, refl)

abbrev fault_tail : ReadFault → Tail
fault_tail (TooLong line) = Long
fault_tail (InputTooLong line) = Long
fault_tail (Device line) = Failing

stops_at_end : (place : Reading) → ComesNext place (Ok None) → Stops place AtEnd
stops_at_end place at = grind arith

stops_at_fault : (fault : ReadFault) (place : Reading) → ComesNext place (Err fault) → Stops place (fault_tail fault)
stops_at_fault (TooLong line) place at = absurd at
stops_at_fault (InputTooLong line) place at = λ rest may. full_view (limit - place.used) place.window rest (omega (arith, at.1)) at.0
stops_at_fault (Device line) place at = grind (arith, take-nil, drop-nil)

-- if the view is empty, no word is left
over : (place : Reading) (tail : Tail) → Stops place tail → IsOver place tail
over place tail stops rest may = let v = stops rest may in rw (v.0, v.1) (same_words [] [] tail _ _ refl (omega arith))

-- the view in which a run is over
run_ends : (new : Reading) (rest : Input) → MayFollow new.end rest → IsRunOver new → RunEnds (is_cut (tail_at new rest)) (view_at new rest)
run_ends new rest may h = grind (arith, with_gap, stops_at_end, with_view)

-- Words.

-- the tokens of a gap and a run that is over: the run's word, or the text line that begins after it
pub run_said : (cut : Bool) (line : ℕ) (gap run view : List ℕ) → list_all is_gap gap ≡ true → list_all is_in_word run ≡ true → 0 < length run → RunEnds cut view
    → tokens_from None cut line ((gap ++ run) ++ view) ≡ run_tokens (is_text_word run) cut (line + count_by is_line_end gap) run view
run_said cut line gap [] view blank solid some ends = absurd (omega arith)
run_said cut line gap (b ∷ run) view blank solid some ends = grind (arith, append_assoc, skip_gap, take_run)

-- a gap has no token
pub gap_takes : {old new : Reading} {had left : Option (List ℕ)} → UsesAll is_gap old new had left → new.used ≤ limit → Takes (among old) (among new) had left []
gap_takes {old} {new} p within = grind (arith, takes p.uses within None None, skip_gap)

-- if a fault comes next, no word is taken and none is left
none_left : {old new : Reading} {had left : Option (List ℕ)} (b : Option (List ℕ)) (fault : ReadFault) → ComesNext new (Err fault) → old.used ≤ new.used
    → Takes (record { following = b; at = old }) (among new) had left [] → TakesNone (record { following = b; at = old }) new had left fault
none_left = grind (arith, over, stops_at_fault)

module _ {old new : Reading} {had left : Option (List ℕ)} {number : ℕ} (run : List ℕ) (p : UsesRun old new had left number run) where
  number_is : number ≡ new.line
  number_is = omega (arith, p.line, p.uses.line, count_then old.line p.gap run, line_lines run (solid_line run p.solid))

  -- a run that a fault cuts is no word
  cut_takes : (fault : ReadFault) → ComesNext new (Err fault) → TakesNone (among old) new had left fault
  cut_takes fault at = none_left None fault at (grind arith) (takes p.uses (grind arith) None None [] (λ rest may.
      grind (arith, stops_at_fault, append-nil, skip_gap, drop_run)))

  over_said : (text : Bool) → is_text_word run ≡ text → 0 < length run → IsRunOver new → (rest : Input) → MayFollow new.end rest
      → tokens_from None (is_cut (tail_at new rest)) old.line ((p.gap ++ run) ++ view_at new rest)
      ≡ run_tokens text (is_cut (tail_at new rest)) new.line run (view_at new rest)
  over_said text is some over rest may = grind (arith, run_said, run_ends, over, number_is)

  -- a run that is over is a word
  word_takes : (text : Bool) → is_text_word run ≡ text → 0 < length run → IsRunOver new → TakesWord text old new had left number run
  word_takes true is some over = takes p.uses (grind arith) None (Some run) [] (over_said true is some over)
  word_takes false is some over = rw number_is (takes p.uses (grind arith) None None (Word new.line run ∷ []) (over_said false is some over))

-- a run that is over and too long for a word is a token all the same
pub long_takes : (old new : Reading) (had left : Option (List ℕ)) (number : ℕ) (run : List ℕ) → 160 < length run → UsesRun old new had left number run
    → IsRunOver new → Takes (among old) (among new) had left (Word number run ∷ [])
long_takes old new had left number run long p ends = word_takes run p false (grind (arith, no_short_form)) (omega (arith, long)) ends

-- which word is taken, by the bytes used and the state after them
pub next_of : (old new : Reading) (had left : Option (List ℕ)) (result : Result (Option Read) ReadFault) → UsesWord old new had left result
    → HoldsAfterWord new result
    → NextWord old new had left result
next_of old new had left (Ok None) p at = (gap_takes p.0 at.2, over new AtEnd (stops_at_end new at), (omega (arith, p.0.uses.used), at.2))
next_of old new had left (Ok (Some word)) p some = grind (arith, word_takes, length-append)
next_of old new had left (Err (TooLong line)) (run, long, p, ends) at =
    (run, long, long_takes old new had left line run long p ends, grind (arith, length-append))
next_of old new had left (Err (InputTooLong line)) p at = cut_takes p.0 p.1 (InputTooLong line) at
next_of old new had left (Err (Device line)) p at = cut_takes p.0 p.1 (Device line) at

-- Text lines.

line_takes : {old new : Reading} {had left : Option (List ℕ)} (keyword line : List ℕ) → list_all is_in_line line ≡ true → UsesWhole old new had left line
    → new.used ≤ limit → Takes (after_word keyword old) (among new) had left (TextLine old.line keyword line ∷ [])
line_takes {old} {new} keyword line plain (inl u) within =
    let next : old.line + 1 ≡ new.line = grind (arith, u.line, count_then old.line line (10 ∷ []), line_lines) in
    takes u within (Some keyword) None (TextLine old.line keyword line ∷ []) (grind (arith, append_assoc, take_line))
line_takes {old} {new} keyword line plain (inr last) within = takes last.0 within (Some keyword) None (TextLine old.line keyword line ∷ []) (λ rest may.
    grind (arith, stops_at_end, append-nil, take_last_line))

-- the bytes used after a text word, up to its line's end, are its text line
pub line_of : (old new : Reading) (had left : Option (List ℕ)) (keyword : List ℕ) (text : Text) → UsesLine old new had left (Ok text) → new.used ≤ limit
    → RestOfLine keyword old new had left (Ok text)
line_of old new had left keyword text (line, plain, is, whole) within = (line, line_takes keyword line plain whole within, is, grind arith, within)

-- if a fault cuts a text line, no word is taken and none is left
pub line_cut : {old new : Reading} {had left : Option (List ℕ)} (keyword : List ℕ) (fault : ReadFault) → UsesAll is_in_line old new had left
    → ComesNext new (Err fault) → RestOfLine keyword old new had left (Err fault)
line_cut {old} {new} keyword fault p at = none_left (Some keyword) fault at (omega (arith, p.uses.used))
    (takes p.uses (grind arith) (Some keyword) None [] (grind (arith, stops_at_fault, append-nil, take_last_line)))
