-- Plain words: words that don't begin like a text word or a word that closes a problem. They say nothing in skipped
-- text (own).
use Rattle.std.specs.Prelude.{◌≡◌, ◌≤◌, ℕ, ◌+◌, ◌==◌, ◌&&◌, ◌||◌, not, List, [], ◌∷◌, ◌++◌, length, count_by, take, drop, Option, None, Bool, true, false, ◌⊎◌}
use Rattle.std.specs.List.{list_all}
use Rattle.std.specs.Char.{to_ascii_lowercase}
use Rattle.pop_text.specs.Words.{Token, Word, TextLine, is_gap, is_line_end, limit, tokens_from}
use Rattle.pop_text.specs.ties.Reading.{Reading, Uses}
use Rattle.pop_text.specs.ties.Left.{Takes, among}

-- tit, aut, ori, rem, nex, end: the first letters of title, author, origin, remark, nextproblem and endproblem
abbrev pub is_named_front : ℕ → ℕ → ℕ → Bool
is_named_front a b c =
    (((((((a == 116 && b == 105) && c == 116) || ((a == 97 && b == 117) && c == 116))
    || ((a == 111 && b == 114) && c == 105)) || ((a == 114 && b == 101) && c == 109))
    || ((a == 110 && b == 101) && c == 120)) || ((a == 101 && b == 110) && c == 100))

-- a word that begins with one of these triples, in capitals or not
abbrev pub is_named : List ℕ → Bool
is_named [] = false
is_named (a ∷ []) = false
is_named (a ∷ b ∷ []) = false
is_named (a ∷ b ∷ c ∷ word) = is_named_front (to_ascii_lowercase a) (to_ascii_lowercase b)
    (to_ascii_lowercase c)

-- whether a token is a plain word
abbrev pub is_plain : Token → Bool
is_plain (Word line text) = not (is_named text)
is_plain (TextLine line keyword text) = false

-- there are no bytes, or a gap or nothing follows them
abbrev pub RunsOut : List ℕ → List ℕ → Type 0
RunsOut bytes [] = bytes ≡ []
RunsOut bytes (b ∷ following) = (bytes ≡ []) ⊎ (is_gap b ≡ true)

-- the bytes are plain words, with the gaps before them
pub record IsPlain (bytes : List ℕ) : Type 0 where
  pub tokens : ℕ → List Token
  pub plain : (line : ℕ) → list_all is_plain (tokens line) ≡ true
  pub words : (cut : Bool) (line : ℕ) (following : List ℕ)
      → (bytes ≡ []) ⊎ ((b : ℕ) × (more : List ℕ) × (following ≡ b ∷ more) × (is_gap b ≡ true))
      → tokens_from None cut line (bytes ++ following) ≡ tokens line
      ++ tokens_from None cut (line + count_by is_line_end bytes) following

-- the first `count` bytes of the view are plain words, and `line_ends` of them are line ends
pub record ArePlain (view : List ℕ) (count line_ends : ℕ) : Type 0 where
  pub within : count ≤ length view
  pub plain : IsPlain (take count view)
  pub over : RunsOut (take count view) (drop count view)
  pub lines : line_ends ≡ count_by is_line_end (take count view)

-- plain words of the window are used
pub record Skips (old new : Reading) : Type 0 where
  pub tokens : List Token
  pub plain : list_all is_plain tokens ≡ true
  pub takes : (had : Option (List ℕ)) → Takes (among old) (among new) had had tokens
  pub bytes : List ℕ
  pub uses : (had : Option (List ℕ)) → Uses old new had had bytes
  pub on : old.used ≤ new.used
  pub within : old.used ≤ limit → new.used ≤ limit
  pub waits : length new.window ≤ length old.window
  pub end : new.end ≡ old.end
