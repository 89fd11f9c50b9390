-- Moves by their places, if they are few (own).
use Rattle.std.specs.Prelude.{◌≡◌, ◌≤◌, ◌-◌, ◌&&◌, ℕ, Bool, true, false, List, ◌∷◌}
use Rattle.chess_core.specs.declared.man.Move.{Move}
use Rattle.chess_rules.specs.ties.Places.{all_triples, triple_at}
use Rattle.pop_tries.specs.declared.few_places.FewPlaces.{FewPlaces}
use Rattle.pop_tries.specs.declared.few_places.FewPlaces.TheVariants.{Empty, One, Two, Many}

-- the place is that of the move
pub record IsPlaceOf (place : ℕ) (m : Move) : Type 0 where
  pub some : 1 ≤ place
  pub most : place ≤ all_triples
  pub move : triple_at (place - 1) ≡ m

-- some moves are those at the places, followed by the rest; of many moves nothing is known
abbrev pub AreAt : FewPlaces → List Move → List Move → Type 0
AreAt Empty all rest = all ≡ rest
AreAt (One place) all rest = (m : Move) × IsPlaceOf place m × (all ≡ m ∷ rest)
AreAt (Two first second) all rest = (m k : Move) × IsPlaceOf first m × IsPlaceOf second k
    × (all ≡ m ∷ k ∷ rest)
AreAt Many all rest = Unit {0}

-- each place is that of a move
abbrev pub ArePlaces : FewPlaces → Type 0
ArePlaces Empty = Unit {0}
ArePlaces (One place) = (1 ≤ place) × (place ≤ all_triples)
ArePlaces (Two first second) = ((1 ≤ first) × (first ≤ all_triples))
    × ((1 ≤ second) × (second ≤ all_triples))
ArePlaces Many = Unit {0}

-- the places are known
abbrev pub are_few : FewPlaces → Bool
are_few Empty = true
are_few (One place) = true
are_few (Two first second) = true
are_few Many = false

-- the moves at the places meet a test
abbrev pub all_meet : (Move → Bool) → FewPlaces → Bool
all_meet test Empty = true
all_meet test (One place) = test (triple_at (place - 1))
all_meet test (Two first second) = test (triple_at (first - 1)) && test (triple_at (second - 1))
all_meet test Many = true
