-- Plain words: what skipping them takes.
use Rattle.pop_text.proofs.Basics.{ArePlain, Bool, Input, IsPlain, List, None, Option, Reading, RunsOut, Skips, Takes, Uses, Word, [], among, ap, append_assoc, arith, codes, count_by, drop, drop-drop, drop-take, drop_more, false, get_or, inl, inr, is_cut, is_gap, is_in_word, is_line_end, is_named, is_plain, is_short_form, is_text_word, length, length-append, length-drop, length-take, limit, list_all, list_all-append, refl, suc, take, take-add, take-append-drop, tokens_from, true, zero, ℕ, ◌&&◌, ◌++◌, ◌+◌, ◌-◌, ◌<◌, ◌==◌, ◌||◌, ◌∙◌, ◌∷◌, ◌≡◌, ◌≤◌, ◌⊎◌}
use Rattle.std.specs.Char.{to_ascii_lowercase}
use Rattle.pop_text.proofs.WordLaws.{all_parts, line_lines, solid_line, RunEnds, with_gap}
use Rattle.pop_text.proofs.Using.{keeps_bytes, uses_none}
use Rattle.pop_text.proofs.Excluded.{gap_or_word}
use Rattle.pop_text.proofs.Left.{and_false, count_then, run_said, tail_at, takes, view_at}

-- Names.

-- a word with other first letters is no short form
no_front : (x y z : ℕ) (name : List ℕ) (a b c : ℕ) (word : List ℕ)
    → (((to_ascii_lowercase a == x) && (to_ascii_lowercase b == y)) && (to_ascii_lowercase c == z)) ≡ false
    → is_short_form (x ∷ y ∷ z ∷ name) (a ∷ b ∷ c ∷ word) ≡ false
no_front x y z name a b c word h = grind (arith, and_false)

or_parts : (p q : Bool) → (p || q) ≡ false → (p ≡ false) × (q ≡ false)
or_parts p q h = grind arith

-- a word that begins like no text word and no closing word is no text word
plain_no_text : (word : List ℕ) → is_named word ≡ false → is_text_word word ≡ false
plain_no_text [] h = refl
plain_no_text (a ∷ []) h = refl
plain_no_text (a ∷ b ∷ []) h = refl
plain_no_text (a ∷ b ∷ c ∷ word) h = grind (arith, or_parts, no_front)

-- a word that begins like no text word and no closing word closes no problem
pub plain_no_closing : (word : List ℕ) → is_named word ≡ false → (is_short_form (codes "nextproblem") word ≡ false)
    × (is_short_form (codes "endproblem") word ≡ false)
plain_no_closing word h = grind (arith, or_parts, no_front)

-- One more word.

-- without bytes there are no words, so all are plain
pub none_plain : IsPlain []
none_plain = record { tokens = λ line. []; plain = λ line. refl; words = λ cut line following ends. let same : line + 0 ≡ line = omega arith in rw same refl }

-- a run after bytes begins after a gap, or there are no bytes
runs_start : (bytes gap word rest following : List ℕ) → list_all is_gap gap ≡ true → list_all is_in_word word ≡ true → 0 < length word
    → RunsOut bytes ((gap ++ word) ++ rest) → (bytes ≡ []) ⊎ ((c : ℕ) × (more : List ℕ) × ((gap ++ word) ++ following ≡ c ∷ more) × (is_gap c ≡ true))
runs_start bytes [] [] rest following g w some out = absurd (omega arith)
runs_start bytes [] (b ∷ word) rest following g w some h = grind (arith, gap_or_word, all_parts)
runs_start bytes (c ∷ gap) word rest following g w some out = inr (c, (gap ++ word) ++ following, refl, (all_parts is_gap c gap g).0)

module _ (bytes gap word : List ℕ) (some : 0 < length word) (blank : list_all is_gap gap ≡ true) (solid : list_all is_in_word word ≡ true)
    (plain : is_named word ≡ false) where
  abbrev piece : List ℕ
  piece = gap ++ word

  ends_by : (cut : Bool) (following : List ℕ) → (bytes ++ piece ≡ []) ⊎ ((c : ℕ) × (more : List ℕ) × (following ≡ c ∷ more) × (is_gap c ≡ true))
      → RunEnds cut following
  ends_by cut following h = grind (arith, length-append bytes piece, length-append gap word, with_gap)

  lines_are : (line : ℕ) → (line + count_by is_line_end bytes) + count_by is_line_end gap ≡ line + count_by is_line_end (bytes ++ piece)
  lines_are line = omega (arith, count_then line bytes piece, count_then (line + count_by is_line_end bytes) gap word, line_lines word (solid_line word solid))

  plain_more : (rest : List ℕ) → IsPlain bytes → RunsOut bytes (piece ++ rest) → IsPlain (bytes ++ piece)
  plain_more rest p out = record {
    tokens = λ line. p.tokens line ++ Word ((line + count_by is_line_end bytes) + count_by is_line_end gap) word ∷ [];
    plain = λ line. list_all-append is_plain (p.tokens line) _ ∙ rw (p.plain line, plain) refl;
    words = λ cut line following ends.
        let next : ℕ = line + count_by is_line_end bytes in
        grind (
          arith,
          append_assoc bytes piece following,
          p.words cut line (piece ++ following) (runs_start bytes gap word rest following blank solid some out),
          run_said cut next gap word following blank solid some (ends_by cut following ends),
          plain_no_text word plain,
          lines_are line,
          append_assoc (p.tokens line) (Word (next + count_by is_line_end gap) word ∷ []) (tokens_from None cut (next + count_by is_line_end gap) following),
        );
  }

-- A step over a view: after the first k bytes, a gap of g bytes and a run of r bytes.

-- if no byte is taken, no run is cut
pub none_out : (following : List ℕ) → RunsOut [] following
none_out following = grind arith

module _ (view left following : List ℕ) (k g r lines more : ℕ) (at_left : left ≡ drop k view) (at_after : following ≡ drop g left) (some : r ≡ 0 → ⊥)
    (short : r ≡ length following → ⊥) (few : g ≤ length left) (fits : r ≤ length following) where
  word : List ℕ
  word = take r following

  pieces : take (k + (g + r)) view ≡ take k view ++ (take g left ++ take r following)
  pieces = grind (arith, take-add)

  rest_is : drop (k + (g + r)) view ≡ drop r following
  rest_is = grind (arith, drop-drop (g + r) k view, drop-drop r g left)

  parts : drop k view ≡ (take g left ++ take r following) ++ drop r following
  parts = grind (arith, take-append-drop g left, take-append-drop r following, append_assoc (take g left) (take r following) (drop r following))

  less : r < length following
  less = omega (arith, short, fits)

  -- after plain words, a gap and one more plain word
  pub step_more : list_all is_gap (take g left) ≡ true → list_all is_in_word (take r following) ≡ true → (r < length following
      → is_gap (get_or following r 0) ≡ true)
      → is_named (take r following) ≡ false → more ≡ count_by is_line_end (take g left) → ArePlain view k lines → ArePlain view (k + (g + r)) (lines + more)
  step_more blank solid over plain are s =
      let size : length (take r following) ≡ r = omega (arith, length-take r following, fits) in record {
        within = let at = s.within in omega (arith, at, ap length at_left, length-drop k view, ap length at_after, length-drop g left, few, fits);
        plain = rw pieces (grind (arith, plain_more, parts));
        over = rw rest_is (grind (arith, less, length-drop, drop_more));
        lines = let n = s.lines in rw pieces (grind (
          arith,
          count_then 0 (take k view) (take g left ++ take r following),
          count_then 0 (take g left) (take r following),
          line_lines (take r following) (solid_line (take r following) solid),
          solid_line (take r following) solid,
        ));
      }

-- What is skipped.

first_of : (n : ℕ) (xs ys out : List ℕ) (b : ℕ) → b ∷ out ≡ take n xs → (more : List ℕ) × (take n (xs ++ ys) ≡ b ∷ more)
first_of zero xs ys out b e = cc
first_of (suc n) [] ys out b e = cc
first_of (suc n) (c ∷ xs) ys out b e = (take n (xs ++ ys), grind arith)

ends_at : (bytes out : List ℕ) (new : Reading) (rest : Input) → RunsOut bytes out → out ≡ take (limit - new.used) new.window
    → (bytes ≡ []) ⊎ ((b : ℕ) × (more : List ℕ) × (view_at new rest ≡ b ∷ more) × (is_gap b ≡ true))
ends_at bytes [] new rest over is = inl over
ends_at bytes (b ∷ out) new rest (inl none) is = inl none
ends_at bytes (b ∷ out) new rest (inr gap) is = let front = first_of (limit - new.used) new.window rest.bytes out b is in inr (b, front.0, front.1, gap)

module _ (old new : Reading) (bytes out : List ℕ) (uses : (had : Option (List ℕ)) → Uses old new had had bytes) (plain : IsPlain bytes)
    (over : RunsOut bytes out) (is : out ≡ take (limit - new.used) new.window) (within : new.used ≤ limit) where
  skip_takes : (had : Option (List ℕ)) → Takes (among old) (among new) had had (plain.tokens old.line)
  skip_takes had = takes (uses had) within None None (plain.tokens old.line) (λ rest may.
      grind (arith, plain.words (is_cut (tail_at new rest)) old.line (view_at new rest) (ends_at bytes out new rest over is), (uses had).line))

  -- bytes that are plain words, used up to a gap or the end of what may be read, are skipped
  pub skips : new.end ≡ old.end → length new.window ≤ length old.window → Skips old new
  skips end waits = record {
    tokens = plain.tokens old.line;
    plain = plain.plain old.line;
    takes = skip_takes;
    bytes = bytes;
    uses = uses;
    on = omega (arith, (uses None).used);
    within = λ before. within;
    waits = waits;
    end = end;
  }

-- what follows a prefix of a view
pub after_view : (view window : List ℕ) (room k : ℕ) → view ≡ take room window → k ≤ room → drop k view ≡ take (room - k) (drop k window)
after_view view window room k is few = let parts : room ≡ k + (room - k) = omega arith in grind (arith, drop-take k (room - k) window)

-- if no byte is used, no word is taken
pub takes_none : (place : Reading) (had : Option (List ℕ)) → Takes (among place) (among place) had had []
takes_none place had = record { bytes = []; amount = omega arith; taken = keeps_bytes had; follows = λ rest may. may; begin = λ rest may. refl }

-- if no byte is used, no word is skipped
pub skips_none : (place : Reading) → Skips place place
skips_none place = record {
  tokens = [];
  plain = refl;
  takes = takes_none place;
  bytes = [];
  uses = uses_none place;
  on = omega arith;
  within = λ h. h;
  waits = omega arith;
  end = refl;
}
