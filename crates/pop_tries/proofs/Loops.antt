-- Loops over the moves of a position that count those which meet a test, or look for one.
use Rattle.std.specs.Prelude.{IfSome, Option}
use Rattle.chess_rules.specs.ties.Places.{IsPlaceIn, LegalPlace, moves_after}
use Rattle.pop_battle.specs.ties.Frames.{Frame}
use Rattle.pop_tries.proofs.Words.{Position, RuleSet, Bool, List, Move, [], arith, false, filter, length, list_any, refl, true, ℕ, ◌+◌, ◌∙◌, ◌∷◌, ◌≡◌}

module _ (test : Move → Bool) (m : Move) (old new : List Move) (next : old ≡ m ∷ new) where
  -- the next move meets the test, and is counted
  pub counted : (count total : ℕ) → test m ≡ true → count + length (filter test old) ≡ total → (count + 1) + length (filter test new) ≡ total
  counted count total meets so_far = grind arith

  -- the next move fails
  pub skipped : (count total : ℕ) → test m ≡ false → count + length (filter test old) ≡ total → count + length (filter test new) ≡ total
  skipped count total fails so_far = grind arith

  -- the next move meets the test, and what is looked for isn't there
  pub not_there : (wanted : Move → Bool) (all : Bool) → test m ≡ true → wanted m ≡ false → list_any wanted (filter test old) ≡ all
      → list_any wanted (filter test new) ≡ all
  not_there wanted all meets fails so_far = grind arith

  -- the next move fails, whatever is looked for
  pub not_asked : (wanted : Move → Bool) (all : Bool) → test m ≡ false → list_any wanted (filter test old) ≡ all → list_any wanted (filter test new) ≡ all
  not_asked wanted all fails so_far = grind arith

  -- the next move meets the test, and is what is looked for
  pub found : (wanted : Move → Bool) (all : Bool) → test m ≡ true → wanted m ≡ true → list_any wanted (filter test old) ≡ all → all ≡ true
  found wanted all meets fits so_far = grind arith

-- no move is left
module _ (test : Move → Bool) (old : List Move) (none : old ≡ []) where
  -- all have been counted
  pub all_counted : (count total : ℕ) → count + length (filter test old) ≡ total → count ≡ total
  all_counted count total so_far = grind arith

  -- what is looked for isn't there
  pub nowhere : (wanted : Move → Bool) (all : Bool) → list_any wanted (filter test old) ≡ all → all ≡ false
  nowhere wanted all so_far = grind arith

-- for a loop that counts
pub ruleset counting = (counted, skipped, all_counted)

-- for a loop that looks for a move
pub ruleset looking = (not_asked, nowhere)

-- the moves that meet the test, from the next move on
module _ (test : Move → Bool) (m : Move) (old new : List Move) (next : old ≡ m ∷ new) where
  -- the next move meets the test
  pub first_meets : test m ≡ true → filter test old ≡ m ∷ filter test new
  first_meets meets = rw (next, meets) refl

  -- the next move fails, and the moves that meet the test stay the same
  pub first_fails : (all : List Move) → test m ≡ false → all ≡ filter test old → all ≡ filter test new
  first_fails all fails so_far = so_far ∙ (rw (next, fails) refl)

  -- the next move meets the test, and it is the first of all
  pub first_of_all : (all : List Move) → test m ≡ true → all ≡ filter test old → all ≡ m ∷ filter test new
  first_of_all all meets so_far = so_far ∙ (rw (next, meets) refl)

-- no move is left, and so none meets the test
pub none_meets : (test : Move → Bool) (old all : List Move) → old ≡ [] → all ≡ filter test old → all ≡ []
none_meets test old all none so_far = so_far ∙ (rw none refl)

-- for a loop that looks for the next move that meets the test
pub ruleset filtering = (first_fails, first_of_all, none_meets)

-- In a loop over the moves of p, board and frames are unchanged, and no move between two places meets the test.
abbrev pub NoneSoFar : RuleSet → Position → (Move → Bool) → (place now : ℕ) → Position → (old new : List Frame) → Option LegalPlace → Type 0
NoneSoFar rule p test place now board old new cursor = (board ≡ p) × (new ≡ old) × IfSome cursor (λ k. IsPlaceIn rule p k)
    × (filter test (moves_after rule p place) ≡ filter test (moves_after rule p now))
