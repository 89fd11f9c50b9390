-- Blanks that are written in parts.
use Rattle.std.proofs.Common.{◌≡◌, ◌<◌, ◌≤◌, ℕ, ◌+◌, ◌-◌, ◌*◌, List, [], ◌∷◌, ◌++◌, replicate, append_assoc, arith, Option}
use Rattle.std.proofs.lemmas.List.{replicate-append-replicate, replicate_more}
use Rattle.pop_text.specs.Bytes.{Appends, Begins}
use Rattle.pop_text.proofs.Appending.{begins_longer, begins_later}

-- a row of blanks in two parts
blanks_cut : (part whole : ℕ) → part ≤ whole → replicate {A = ℕ} whole 32 ≡ replicate part 32 ++ replicate (whole - part) 32
blanks_cut part whole within = grind (arith, replicate-append-replicate)

-- a line whose first blanks are written apart
pub line_cut : (apart depth : ℕ) (number move ending : List ℕ) → apart ≤ 2 * depth
    → replicate {A = ℕ} (2 * depth) 32 ++ number ++ move ++ ending ≡ replicate apart 32 ++ (replicate (2 * depth - apart) 32 ++ number ++ move ++ ending)
line_cut apart depth number move ending within = grind (arith, blanks_cut apart (2 * depth) within, append_assoc)

-- a row of blanks, and a beginning of one more
pub blanks_begin : (a b c : Option (List ℕ)) (done count : ℕ) → done < count → Appends a b (replicate done 32) → Begins b c (32 ∷ [])
    → Begins a c (replicate count 32)
blanks_begin a b c done count more p q =
    rw (blanks_cut (done + 1) count (omega arith), ← replicate_more {X = ℕ} done 32) (begins_longer _ (begins_later a b c _ _ p q))
