-- The bytes of an input in the spans of its items: the faulty word, or the word that closes the item.
use Rattle.std.proofs.Common.{List, None, Option, Some, [], ap, append_assoc, arith, drop, length, length-append, refl, sym, take, ℕ, ◌++◌, ◌+◌, ◌-◌, ◌∙◌, ◌∷◌, ◌≡◌}
use Rattle.std.proofs.Common.{inl, inr, Bool}
use Rattle.std.proofs.Math.Seq.{drop-append_seam, take-append_seam}
use Rattle.pop_text.specs.Words.{Token}
use Rattle.pop_text.specs.ties.Reading.{Reading, Uses, first_reading}
use Rattle.pop_input.specs.Blocks.{Entry, Sound as SoundEntry, Faulty as FaultyEntry}
use Rattle.pop_input.specs.declared.item.Fault.{Fault}
use Rattle.pop_input.specs.declared.item.Last.{Last}
use Rattle.pop_input.specs.declared.span.Span.{Span}
use Rattle.pop_input.specs.ties.Spans.{EndsWord, IsClosingWord, IsFaultyWord, IsWhereCut}
use Rattle.pop_input.specs.ties.ReaderState.{ReaderState, initial_state}
use Rattle.pop_input.specs.ties.Used.{UsesItem}
use Rattle.pop_faults.specs.FaultList.{Located}
use Rattle.pop_faults.specs.ties.FaultRuns.{AreLocated, item_of}

-- the bytes in a span
abbrev pub bytes_at : Span → List ℕ → List ℕ
bytes_at span bytes = take (span.end - span.start) (drop span.start bytes)

-- The first of these bytes are used, and the others are in the window or left.
pub record IsAt (all used : List ℕ) (now : Reading) (left : Option (List ℕ)) : Type 0 where
  pub rest : List ℕ
  pub left_is : left ≡ Some rest
  pub whole : all ≡ used ++ (now.window ++ rest)
  pub count : now.used ≡ length used

-- before the first item no byte is used
at_start : (all : List ℕ) → IsAt all [] first_reading (Some all)
at_start all = record { rest = all; left_is = refl; whole = refl; count = refl }

-- after some bytes more are used
at_after : (all used : List ℕ) (old new : Reading) (mid left : Option (List ℕ)) (bytes : List ℕ) → IsAt all used old mid → Uses old new mid left bytes
    → IsAt all (used ++ bytes) new left
at_after all used old new mid None bytes p u = absurd (rw p.left_is at u.consumed)
at_after all used old new mid (Some ys) bytes p u =
    let got : p.rest ≡ u.taken ++ ys = rw p.left_is at u.consumed in
    record {
      rest = ys;
      left_is = refl;
      whole = p.whole ∙ ap (λ rest. used ++ (old.window ++ rest)) got
          ∙ ap (λ rest. used ++ rest) (sym (append_assoc old.window u.taken ys) ∙ ap (λ front. front ++ ys) u.unread ∙ append_assoc bytes new.window ys)
          ∙ sym (append_assoc used bytes (new.window ++ ys));
      count = u.used ∙ ap (λ n. n + length bytes) p.count ∙ sym (length-append used bytes);
    }

module _ (all used : List ℕ) (old new : Reading) (mid left : Option (List ℕ)) (front : List Token) (line : ℕ) (word : List ℕ) (span : Span)
    (p : IsAt all used old mid) (e : EndsWord old new mid left front line word span) where
  after : IsAt all (used ++ (e.before ++ word)) new left
  after = at_after all used old new mid left (e.before ++ word) p e.used.uses

  tail : List ℕ
  tail = new.window ++ after.rest

  -- the bytes in front of the word, the word, and those after it
  parts : all ≡ (used ++ e.before) ++ (word ++ tail)
  unfolding tail
  parts = after.whole ∙ ap (λ bytes. bytes ++ (new.window ++ after.rest)) (sym (append_assoc used e.before word))
      ∙ append_assoc (used ++ e.before) word (new.window ++ after.rest)

  start_is : span.start ≡ length (used ++ e.before)
  start_is = e.start ∙ ap (λ n. n + length e.before) p.count ∙ sym (length-append used e.before)

  size_is : span.end - span.start ≡ length word
  size_is = omega (arith, e.start, e.end, length-append e.before word)

  -- the word is in its place
  word_there : bytes_at span all ≡ word
  word_there =
      ap (λ size. take size (drop span.start all)) size_is
      ∙ ap (λ start. take (length word) (drop start all)) start_is
      ∙ ap (λ bytes. take (length word) (drop (length (used ++ e.before)) bytes)) parts
      ∙ ap (λ bytes. take (length word) bytes) (drop-append_seam (used ++ e.before) (word ++ tail))
      ∙ take-append_seam word tail

-- the span of an item with a faulty word holds that word
pub faulty_word_there : (all used : List ℕ) (first : Bool) (old : Reading) (mid : Option (List ℕ)) (fault : Fault) (span : Span)
    → IsAt all used old mid → (is : IsFaultyWord first old mid fault span) → bytes_at span all ≡ is.word
faulty_word_there all used first old mid fault span p is =
    word_there all used old is.new mid is.left is.front is.line is.word span p is.ends

-- the span of an item that is closed without a faulty word holds the closing word
pub closing_word_there : (all used : List ℕ) (first : Bool) (old new : Reading) (mid left : Option (List ℕ)) (span : Span)
    → IsAt all used old mid → (is : IsClosingWord first old new mid left span) → bytes_at span all ≡ is.word
closing_word_there all used first old new mid left span p is =
    word_there all used old new mid left is.front is.line is.word span p is.ends

-- the span where the input ends or is cut is empty
pub nothing_there : (all : List ℕ) (first : Bool) (old new : Reading) (mid left : Option (List ℕ)) (span : Span)
    → IsWhereCut first old new mid left span → bytes_at span all ≡ []
nothing_there all first old new mid left span is =
    let none : span.end - span.start ≡ 0 = omega (arith, is.start, is.end) in
    ap (λ size. take size (drop span.start all)) none

-- an item that is read leaves the bytes after it
item_after : (all used : List ℕ) (old new : ReaderState) (mid left : Option (List ℕ)) (entry : Entry) (last : Last) → IsAt all used old.at mid
    → UsesItem old new mid left (item_of entry last) → (more : List ℕ) × IsAt all (used ++ more) new.at left
item_after all used old new mid left (SoundEntry posed) last p u = (_, at_after all used old.at new.at mid left _ p u.used.uses)
item_after all used old new mid left (FaultyEntry fault) last p (inl u) = (_, at_after all used old.at new.at mid left _ p u.used.uses)
item_after all used old new mid left (FaultyEntry fault) last p (inr u) = (_, at_after all used old.at new.at mid left _ p u.used.uses)

items_after : (all used : List ℕ) (old new : ReaderState) (mid left : Option (List ℕ)) (items : List Located) → IsAt all used old.at mid
    → AreLocated old new mid left items → (now : List ℕ) × IsAt all now new.at left
items_after all used old new mid left [] p (same, none) = (used, rw (same, none) p)
items_after all used old new mid left (item ∷ items) p (next, between, one, others) =
    let it = item_after all used old next mid between item.entry one.last p one.used in
    items_after all (used ++ it.0) next new between left items it.1 others

-- after located items the bytes used are the first of the input, so that spans are offsets from its first byte
pub located_at : (all : List ℕ) (now : ReaderState) (left : Option (List ℕ)) (items : List Located)
    → AreLocated initial_state now (Some all) left items → (used : List ℕ) × IsAt all used now.at left
located_at all now left items = items_after all [] initial_state now (Some all) left items (at_start all)
