-- The first moves that may be tries, before any is found (own).
use Rattle.std.specs.Prelude.{List, [], ◌∷◌, Option, slice_index_or, ℕ}
use Rattle.std.specs.List.{repeat}
use Rattle.pop_tries.specs.declared.kept_tries.Candidates.{Candidates}
use Rattle.pop_tries.specs.declared.kept_tries.KeptTry.{KeptTry}
use Rattle.pop_tries.specs.declared.move_set.MoveSet.{MoveSet}
use Rattle.pop_tries.specs.ties.MoveSets.{nothing_refuting}

-- no try: at place 0 is no move
abbrev pub no_try : KeptTry
no_try = record { refuting = nothing_refuting; place = 0 }

-- no try is kept
abbrev pub none_kept : List KeptTry
none_kept = repeat 16 (no_try ∷ [])

-- the try that is kept at a number
abbrev pub try_at : List KeptTry → ℕ → KeptTry
try_at kept i = slice_index_or kept i no_try

-- the moves of a set may be tries, and none is known to be one
abbrev pub candidates_of : Option MoveSet → Candidates
candidates_of set = record { kept = none_kept; count = 0; set = set }
