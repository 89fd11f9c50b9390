-- What the clauses exclude. In the scanner: using more than a word or a line, or reporting another line
-- number, if the source's bytes are known; cutting a word; returning a part of a line that has a line
-- end. In sinks and adapters: leaving out a part of a text, reporting a clean end as a failure, and
-- reporting a text that was taken as refused.
use Rattle.pop_text.proofs.Basics.{Appends, IsRunOver, List, Ok, Open, Reading, Result, Some, Text, Uses, UsesLine, UsesRun, [], ap, append_cancel_right, arith, count_by, inl, inr, is_gap, is_in_line, is_in_word, is_line_end, length, length-append, list_all, refl, sym, true, ℕ, ◌++◌, ◌+◌, ◌∙◌, ◌∷◌, ◌≡◌}
use Rattle.std.specs.Prelude.{IsErr, ◌<◌}
use Rattle.pop_text.proofs.WordLaws.{all_parts}
use Rattle.pop_text.specs.Bytes.{PassesOnRead, PassesOnWrite}

-- two ways to use bytes of a known source use equal bytes
pub same_bytes : (old new : Reading) (had left xs ys : List ℕ) → Uses old new (Some had) (Some left) xs → Uses old new (Some had) (Some left) ys → xs ≡ ys
same_bytes old new had left xs ys p q = grind (arith, append_cancel_right)

no_more : (xs following : List ℕ) → xs ≡ xs ++ following → following ≡ []
no_more xs [] e = refl
no_more xs (b ∷ following) e = absurd (omega (arith, ap length e, length-append xs (b ∷ following)))

-- no byte belongs to a gap and to a word
pub gap_or_word : (b : ℕ) → is_gap b ≡ true → is_in_word b ≡ true → ⊥
gap_or_word b g w = grind (arith, g, w)

-- two gaps before one run are equal, and nothing follows
same_gap : (g h : List ℕ) (c : ℕ) (run following : List ℕ) → list_all is_gap g ≡ true → list_all is_gap h ≡ true → is_in_word c ≡ true
    → h ++ c ∷ run ≡ (g ++ c ∷ run) ++ following → (g ≡ h) × (following ≡ [])
same_gap [] [] c run following p q w e = (refl, no_more (c ∷ run) following e)
same_gap [] (b ∷ h) c run following p q w e = let is : b ≡ c = cc in absurd (gap_or_word b (all_parts is_gap b h q).0 (rw is w))
same_gap (b ∷ g) [] c run following p q w e = let is : c ≡ b = cc in absurd (gap_or_word b (all_parts is_gap b g p).0 (rw (← is) w))
same_gap (b ∷ g) (d ∷ h) c run following p q w e =
    grind (arith, all_parts, same_gap g h c run following (all_parts is_gap b g p).1 (all_parts is_gap d h q).1 w cc)

-- a call that used a gap, a run and more bytes: there are no more bytes, and the number is the run's line
pub nothing_after_word : (old new : Reading) (had left : List ℕ) (number : ℕ) (gap : List ℕ) (c : ℕ) (run following : List ℕ) → list_all is_gap gap ≡ true
    → is_in_word c ≡ true → Uses old new (Some had) (Some left) ((gap ++ c ∷ run) ++ following)
    → UsesRun old new (Some had) (Some left) number (c ∷ run) → (following ≡ []) × (number ≡ old.line + count_by is_line_end gap)
nothing_after_word old new had left number gap c run following blank solid used u =
    let same = same_gap gap u.gap c run following blank u.blank solid
    (same_bytes old new had left (u.gap ++ c ∷ run) ((gap ++ c ∷ run) ++ following) u.uses used) in
    (same.1, u.line ∙ ap (λ g. old.line + count_by is_line_end g) (sym same.0))

-- no word is over before a byte that belongs to it
pub word_is_whole : (new : Reading) (c : ℕ) (rest : List ℕ) → is_in_word c ≡ true → new.window ≡ c ∷ rest → IsRunOver new → ⊥
word_is_whole new c rest solid at over = grind (arith, gap_or_word)

-- no word is over only because the window ends
pub window_ends_no_word : (new : Reading) → new.window ≡ [] → new.end ≡ Open → IsRunOver new → ⊥
window_ends_no_word new none unknown over = grind arith

-- two lines before one line end are equal, and nothing follows
same_line : (line other following : List ℕ) → list_all is_in_line line ≡ true → list_all is_in_line other ≡ true
    → other ++ 10 ∷ [] ≡ (line ++ 10 ∷ []) ++ following
    → following ≡ []
same_line [] [] following p q e = no_more (10 ∷ []) following e
same_line [] (b ∷ other) following p q e = grind (arith, all_parts)
same_line (b ∷ line) [] following p q e = grind (arith, all_parts)
same_line (b ∷ line) (d ∷ other) following p q e = same_line line other following (all_parts is_in_line b line p).1 (all_parts is_in_line d other q).1 cc

no_end : (line other following : List ℕ) → list_all is_in_line other ≡ true → other ≡ (line ++ 10 ∷ []) ++ following → ⊥
no_end [] other following q e = grind (arith, all_parts)
no_end (b ∷ line) [] following q e = cc
no_end (b ∷ line) (d ∷ other) following q e = no_end line other following (all_parts is_in_line d other q).1 cc

-- a call that used a line, its line end and more bytes: there are no more bytes
pub nothing_after_line : (old new : Reading) (had left : List ℕ) (text : Text) (line following : List ℕ) → list_all is_in_line line ≡ true
    → Uses old new (Some had) (Some left) ((line ++ 10 ∷ []) ++ following) → UsesLine old new (Some had) (Some left) (Ok text) → following ≡ []
nothing_after_line old new had left text line following plain used (other, p, is, whole) = elim whole [
  | inl u ↦ same_line line other following plain p (same_bytes old new had left (other ++ 10 ∷ []) ((line ++ 10 ∷ []) ++ following) u used)
  | inr u ↦ absurd (no_end line other following p (same_bytes old new had left other ((line ++ 10 ∷ []) ++ following) u.0 used))
]

-- bytes after the first line end of a view are no part of the line
pub nothing_after_line_end : (line following : List ℕ) → list_all is_in_line (line ++ 10 ∷ following) ≡ true → ⊥
nothing_after_line_end [] following e = cc
nothing_after_line_end (b ∷ line) following e = nothing_after_line_end line following (all_parts is_in_line b (line ++ 10 ∷ following) e).1

-- if all of a text was written, no part of it was left out
pub nothing_left_out : (before now text following : List ℕ) → Appends (Some before) (Some now) text → Appends (Some before) (Some now) (text ++ following)
    → following ≡ []
nothing_left_out before now text [] p q = refl
nothing_left_out before now text (b ∷ following) p q =
    absurd (omega (arith, ap length (sym p ∙ q), length-append before text, length-append before (text ++ b ∷ following), length-append text (b ∷ following)))

-- a reader's clean end is a source's clean end
pub end_is_no_failure : {D E : Type 0} (answer : Result ℕ E) (reported : Result ℕ D) → answer ≡ Ok 0 → PassesOnRead answer reported → IsErr reported → ⊥
end_is_no_failure answer reported end reports failed = grind arith

-- a text that the writer took is taken, however long it is
pub taken_text_is_reported : {D E : Type 0} (size n : ℕ) (answer : Result ℕ E) (reported : Result ℕ D) → answer ≡ Ok n → 0 < n
    → PassesOnWrite size answer reported
    → IsErr reported → ⊥
taken_text_is_reported size n answer reported took some reports failed = grind arith
