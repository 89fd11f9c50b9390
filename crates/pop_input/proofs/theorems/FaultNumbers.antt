-- No two kinds of faults have the same number.
use Rattle.pop_input.proofs.Words.{BadLimit, BadStipulation, BeginProblemMissing, ColourMissing, DeviceFailed, EnPassantImpossible, EndProblemMissing, FaultKind, KingMissing, NoMen, NoneCastlesThere, PawnOnOuterRank, SecondCondition, SecondKing, SecondStipulation, Some, SquareMissing, SquareTaken, StipulationMissing, WaitingSideInCheck, WordMisplaced, WordTooLong, List, Option, [], arith, number_of, refl, ◌==◌, ◌≡◌, ◌∷◌, ℕ}
use Rattle.std.specs.Prelude.{find}
use Rattle.pop_input.specs.declared.fault_kind.FaultKind.TheVariants.{InputTooLong}

-- all kinds, in the order of their numbers
abbrev fault_kinds : List FaultKind
fault_kinds =
    BeginProblemMissing ∷ WordMisplaced ∷ WordTooLong ∷ ColourMissing ∷ SquareTaken ∷ PawnOnOuterRank ∷ SecondKing
    ∷ BadStipulation ∷ SecondStipulation ∷ StipulationMissing ∷ NoMen ∷ SecondCondition ∷ BadLimit ∷ SquareMissing
    ∷ EnPassantImpossible ∷ NoneCastlesThere ∷ KingMissing ∷ WaitingSideInCheck ∷ EndProblemMissing ∷ InputTooLong
    ∷ DeviceFailed ∷ []

-- the kind with this number
unfoldable kind_numbered : ℕ → Option FaultKind
kind_numbered number = find (λ kind. number_of kind == number) fault_kinds

-- the kind with the number of a kind is this kind
numbered_is : (kind : FaultKind) → kind_numbered (number_of kind) ≡ Some kind
unfolding kind_numbered
numbered_is BeginProblemMissing = refl
numbered_is WordMisplaced = refl
numbered_is WordTooLong = refl
numbered_is ColourMissing = refl
numbered_is SquareTaken = refl
numbered_is PawnOnOuterRank = refl
numbered_is SecondKing = refl
numbered_is BadStipulation = refl
numbered_is SecondStipulation = refl
numbered_is StipulationMissing = refl
numbered_is NoMen = refl
numbered_is SecondCondition = refl
numbered_is BadLimit = refl
numbered_is SquareMissing = refl
numbered_is EnPassantImpossible = refl
numbered_is NoneCastlesThere = refl
numbered_is KingMissing = refl
numbered_is WaitingSideInCheck = refl
numbered_is EndProblemMissing = refl
numbered_is InputTooLong = refl
numbered_is DeviceFailed = refl

-- Two kinds with the same number are the same kind.
pub numbers_differ : (a b : FaultKind) → number_of a ≡ number_of b → a ≡ b
numbers_differ a b same = grind (arith, numbered_is a, numbered_is b)
