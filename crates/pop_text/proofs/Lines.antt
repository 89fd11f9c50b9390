-- The bytes that are kept of a line.
use Rattle.pop_text.proofs.Basics.{List, [], append-nil, append_assoc, arith, cases_lt, fold, le-ltb, length-append, length-take, lt-ltb, suc, take, take-append-le, take_all, with_byte, without_leading, ℕ, ◌++◌, ◌∷◌, ◌≡◌}

-- the bytes kept of a line's bytes, before trailing blanks are removed
abbrev pub kept_of_line : List ℕ → List ℕ
kept_of_line bytes = take 200 (without_leading bytes)

-- The bytes kept, if there is room for one byte and m more.

module _ (m : ℕ) where
  -- one more byte of a line
  kept_more : (bytes : List ℕ) (c : ℕ) → with_byte (suc m) (take (suc m) (without_leading bytes)) c ≡ take (suc m) (without_leading (bytes ++ c ∷ []))
  kept_more [] c = grind (arith, take_all)
  kept_more (b ∷ bytes) c = grind (arith, kept_more bytes c, cases_lt, take_all, length-append, lt-ltb, length-take, le-ltb, take-append-le)

-- more bytes of a line
pub kept_all : (bytes part : List ℕ) → fold (with_byte 200) (take 200 (without_leading bytes)) part ≡ take 200 (without_leading (bytes ++ part))
kept_all bytes [] = grind (arith, append-nil)
kept_all bytes (c ∷ part) = grind (arith, kept_more 199 bytes c, kept_all (bytes ++ c ∷ []) part, append_assoc bytes (c ∷ []) part)
