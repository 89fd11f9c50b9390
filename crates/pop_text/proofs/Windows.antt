-- The window: a slice of an array of bytes.
use Rattle.pop_text.proofs.Basics.{Bool, End, IsFront, IsView, Leads, List, Ok, Option, ComesNext, Reading, Some, Uses, [], append-nil, arith, count_by, drop, drop-drop, drop-take, drop_more, get_or, is_in_line, is_line_end, le-ltb, length, length-drop, length-take, length-take-le, limit, list_all, refl, slice_index, slice_range, suc, take, take-append-drop, take-take, true, with_byte, zero, ℕ, ◌+◌, ◌-◌, ◌<◌, ◌==◌, ◌∷◌, ◌≡◌, ◌≤◌}
use Rattle.pop_text.proofs.Using.{keeps_bytes}
use Rattle.pop_text.proofs.WordLaws.{line_lines}

-- the first byte of the window
window_front : (cells : List ℕ) (start stop : ℕ) → start < stop → stop ≤ length cells
    → slice_range cells start stop ≡ get_or cells start 0 ∷ slice_range cells (start + 1) stop
window_front cells start stop some within = grind (arith, drop_more)

-- the window after its first bytes
window_drop : (cells : List ℕ) (start stop count : ℕ) → start + count ≤ stop
    → slice_range cells (start + count) stop ≡ drop count (slice_range cells start stop)
window_drop cells start stop count within = grind (arith, drop-take count (stop - (start + count)) (drop start cells), drop-drop count start cells)

module _ (cells : List ℕ) (start stop : ℕ) (within : stop ≤ length cells) where
  abbrev reading : ℕ → ℕ → ℕ → End → Reading
  reading from used line end = record { window = slice_range cells from stop; used = used; line = line; end = end }

  -- the first byte of the window is the next byte
  pub front_peeks : (used line : ℕ) (end : End) → start < stop → used < limit → ComesNext (reading start used line end) (Ok (Some (get_or cells start 0)))
  front_peeks used line end some room = (slice_range cells (start + 1) stop, window_front cells start stop some within, room)

  -- the first bytes of the window are used, and their lines counted
  pub some_used : (used line count lines : ℕ) (end : End) (had : Option (List ℕ)) → start ≤ stop → count ≤ length (slice_range cells start stop)
      → lines ≡ count_by is_line_end (take count (slice_range cells start stop))
      → Uses (reading start used line end) (reading (start + count) (used + count) (line + lines) end) had had (take count (slice_range cells start stop))
  some_used used line count lines end had in_order few are = grind (arith, window_drop, keeps_bytes, append-nil, take-append-drop, length-take, length-drop)

  -- the bytes after the first ones stay in the window
  pub rest_waits : (count : ℕ) → start ≤ stop → count ≤ length (slice_range cells start stop)
      → slice_range cells (start + count) stop ≡ drop count (slice_range cells start stop)
  rest_waits count in_order few = window_drop cells start stop count (grind (arith, length-take, length-drop))

-- The view.

-- the first `count` bytes of the view are a prefix of the window within the limit
pub record IsWithin (now : Reading) (view : List ℕ) (count : ℕ) : Type 0 where
  pub front : take count view ≡ take count now.window
  pub few : count ≤ length now.window
  pub room : now.used + count ≤ limit

module _ {now : Reading} {view : List ℕ} {count : ℕ} (is : IsView now view) (few : count ≤ length view) where
  -- the first bytes of a view are a prefix of the window within the limit
  pub view_within : IsWithin now view count
  view_within = grind (arith, take-take, length-take)

  -- there is a byte if the window's first byte meets a test
  pub view_some : (test : ℕ → Bool) → ((b : ℕ) (rest : List ℕ) → view ≡ b ∷ rest → test b ≡ true → 0 < count) → (b : ℕ) (rest : List ℕ) → now.window ≡ b ∷ rest
      → test b ≡ true → now.used < limit → 0 < count
  view_some test some b rest at meets room = grind arith

-- the first bytes of a view that meet a test are a prefix without a line end
pub front_is : {now : Reading} {view : List ℕ} {count : ℕ} (test : ℕ → Bool) → IsView now view → Leads test view count
    → ((bytes : List ℕ) → list_all test bytes ≡ true → list_all is_in_line bytes ≡ true) → IsFront test now (take count view)
front_is {now} {view} {count} test is p plain = grind (arith, length-take-le count view p.within, view_within is p.within, line_lines, view_some)

-- bytes before the first line end
pub plain_prefix : (view : List ℕ) (count : ℕ) → count ≤ length view → ((k : ℕ) → k < count → (slice_index view k == 10) ≡ true → ⊥)
    → list_all is_in_line (take count view) ≡ true
plain_prefix view zero within none = refl
plain_prefix [] (suc count) within none = absurd (omega arith)
plain_prefix (b ∷ view) (suc count) within none = grind (arith, none 0, plain_prefix view count (omega arith) (λ k lt. none (suc k) (omega arith)))

-- a view without a line end is part of one line
pub plain_all : (view : List ℕ) → ((k : ℕ) → k < length view → (slice_index view k == 10) ≡ true → ⊥) → list_all is_in_line (take (length view) view) ≡ true
plain_all view none = plain_prefix view (length view) (omega arith) none

-- a full text takes no more
pub full_stays : (kept : List ℕ) (byte : ℕ) → length kept ≡ 200 → with_byte 200 kept byte ≡ kept
full_stays kept byte full = grind (arith, le-ltb)
