-- The state of a scanner, and which bytes a call uses (own).
use Rattle.std.specs.Prelude.{◌≡◌, ◌≤◌, ◌<◌, ℕ, ◌+◌, ◌-◌, List, [], ◌∷◌, ◌++◌, take, length, count_by, Option, Bool, true, ◌⊎◌}
use Rattle.std.specs.List.{list_all}
use Rattle.pop_text.specs.Words.{is_line_end, limit}
use Rattle.pop_text.specs.Bytes.{Consumes, IsAtEnd, greatest_count}
use Rattle.pop_text.specs.declared.scanner.End.{End}
use Rattle.pop_text.specs.declared.scanner.End.TheVariants.{Open, Ended, Broken}

-- the state of a scanner: the window of bytes that are read but not used, how many bytes are used, the line of the next
-- byte, and how the input ends, if that is known
pub record Reading : Type 0 where
  pub window : List ℕ
  pub used : ℕ
  pub line : ℕ
  pub end : End

-- the state before the first byte
abbrev pub first_reading : Reading
first_reading = record { window = []; used = 0; line = 1; end = Open }

-- Between old and new these bytes are used: some bytes are taken from the source, and the unused bytes begin with those
-- that are used now.
pub record Uses (old new : Reading) (had left : Option (List ℕ)) (bytes : List ℕ) : Type 0 where
  pub taken : List ℕ
  pub consumed : Consumes had left taken
  pub unread : old.window ++ taken ≡ bytes ++ new.window
  pub used : new.used ≡ old.used + length bytes
  pub line : new.line ≡ old.line + count_by is_line_end bytes
  pub still : old.end ≡ Open ⊎ ((taken ≡ []) × (new.end ≡ old.end))

-- Between old and new bytes that meet the test are used.
pub record UsesAll (test : ℕ → Bool) (old new : Reading) (had left : Option (List ℕ)) : Type 0 where
  pub bytes : List ℕ
  pub all : list_all test bytes ≡ true
  pub uses : Uses old new had left bytes

-- The first `count` bytes of the view meet the test, and `line_ends` of them are line ends.
pub record AreFirst (test : ℕ → Bool) (view : List ℕ) (count line_ends : ℕ) : Type 0 where
  pub within : count ≤ length view
  pub all : list_all test (take count view) ≡ true
  pub lines : line_ends ≡ count_by is_line_end (take count view)
  pub few : line_ends ≤ count

-- The first `count` bytes of the view meet the test; `count` is at least 1 if the first byte meets it.
pub record Leads (test : ℕ → Bool) (view : List ℕ) (count : ℕ) : Type 0 where
  pub within : count ≤ length view
  pub all : list_all test (take count view) ≡ true
  pub some : (b : ℕ) → (rest : List ℕ) → view ≡ b ∷ rest → test b ≡ true → 0 < count

-- the view: the bytes of the window that are within the limit of the input
pub record IsView (now : Reading) (view : List ℕ) : Type 0 where
  pub bytes : view ≡ take (limit - now.used) now.window
  pub within : now.used ≤ limit

-- The part is a prefix of the window within the limit, meets the test and has no line end. It has at least one byte if
-- the window's first byte meets it.
pub record IsFront (test : ℕ → Bool) (now : Reading) (part : List ℕ) : Type 0 where
  pub front : take (length part) now.window ≡ part
  pub flat : 0 ≡ count_by is_line_end (take (length part) now.window)
  pub within : length part ≤ length now.window
  pub room : now.used + length part ≤ limit
  pub all : list_all test part ≡ true
  pub some : (b : ℕ) → (rest : List ℕ) → now.window ≡ b ∷ rest → test b ≡ true → now.used < limit
      → 0 < length part

-- an end that the scanner has seen is the end of the source
abbrev pub IsEndSeen : End → Option (List ℕ) → Type 0
IsEndSeen Open left = Unit {0}
IsEndSeen Ended left = IsAtEnd left
IsEndSeen Broken left = Unit {0}

-- the count of failures after a call: it grows if the input breaks off
abbrev pub failures_after : End → End → ℕ → ℕ
failures_after Open Broken n = n + 1
failures_after _ _ n = n

-- a call is allowed: if the end isn't known, the source may be called, and its count of failures may still grow
abbrev pub MayCall : End → ℕ → Type 0
MayCall end failures = end ≡ Open → failures < greatest_count

-- Between two states the source is called only if its end isn't known: a known end stays, an end that was seen is still
-- the end of the source, and a failure is counted.
pub record CallsSource (old new : End) (had left : Option (List ℕ)) (before after : ℕ) : Type 0 where
  pub seen : IsEndSeen old had → IsEndSeen new left
  pub ends : old ≡ Open ⊎ new ≡ old
  pub counted : after ≡ failures_after old new before
