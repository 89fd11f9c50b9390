-- The kinds of faults, their numbers and texts (own).
use Rattle.std.specs.Prelude.{ℕ, Bool, true, false, List, Option, ◌++◌, codes, decimal, option_map}
use Rattle.pop_input.specs.declared.item.Fault.{Fault}
use Rattle.pop_input.specs.declared.fault_kind.FaultKind.{FaultKind}
use Rattle.pop_input.specs.declared.fault_kind.FaultKind.TheVariants.{BeginProblemMissing, WordMisplaced, WordTooLong, ColourMissing, SquareTaken, PawnOnOuterRank, SecondKing}
use Rattle.pop_input.specs.declared.fault_kind.FaultKind.TheVariants.{BadStipulation, SecondStipulation, StipulationMissing, NoMen, SecondCondition, BadLimit, SquareMissing}
use Rattle.pop_input.specs.declared.fault_kind.FaultKind.TheVariants.{EnPassantImpossible, NoneCastlesThere, KingMissing, WaitingSideInCheck, EndProblemMissing, InputTooLong, DeviceFailed}

-- the number of a kind
abbrev pub number_of : FaultKind → ℕ
number_of BeginProblemMissing = 1
number_of WordMisplaced = 2
number_of WordTooLong = 3
number_of ColourMissing = 4
number_of SquareTaken = 5
number_of PawnOnOuterRank = 6
number_of SecondKing = 7
number_of BadStipulation = 8
number_of SecondStipulation = 9
number_of StipulationMissing = 10
number_of NoMen = 11
number_of SecondCondition = 12
number_of BadLimit = 13
number_of SquareMissing = 14
number_of EnPassantImpossible = 15
number_of NoneCastlesThere = 16
number_of KingMissing = 17
number_of WaitingSideInCheck = 18
number_of EndProblemMissing = 19
number_of InputTooLong = 20
number_of DeviceFailed = 21

-- the text of a kind of fault
abbrev pub message_of : FaultKind → List ℕ
message_of BeginProblemMissing = codes "BeginProblem expected"
message_of WordMisplaced = codes "unknown or misplaced word"
message_of WordTooLong = codes "word too long"
message_of ColourMissing = codes "colour expected before men"
message_of SquareTaken = codes "square given twice"
message_of PawnOnOuterRank = codes "pawn on rank 1 or 8"
message_of SecondKing = codes "second king of a colour"
message_of BadStipulation = codes "bad stipulation"
message_of SecondStipulation = codes "second stipulation"
message_of StipulationMissing = codes "stipulation missing"
message_of NoMen = codes "no men"
message_of SecondCondition = codes "second condition"
message_of BadLimit = codes "number expected or out of range"
message_of SquareMissing = codes "square expected"
message_of EnPassantImpossible = codes "en passant not possible there"
message_of NoneCastlesThere = codes "NoCastling square is none of the six"
message_of KingMissing = codes "side to be mated has no king"
message_of WaitingSideInCheck = codes "side not to move is in check"
message_of EndProblemMissing = codes "input ended before EndProblem"
message_of InputTooLong = codes "input too long"
message_of DeviceFailed = codes "input device failed"

-- what a report's line says of a fault
abbrev pub fault_line : Fault → List ℕ
fault_line fault =
    codes "line " ++ decimal fault.line ++ codes ": fault " ++ decimal (number_of fault.kind)
    ++ codes ": " ++ message_of fault.kind

-- whether the source of the input has failed
abbrev pub is_device_failure : FaultKind → Bool
is_device_failure DeviceFailed = true
is_device_failure _ = false

-- a fault of this kind in a line
abbrev pub fault_at : FaultKind → ℕ → Fault
fault_at kind line = record { kind = kind; line = line }

-- a fault in this line, if there is one
abbrev pub at_line : ℕ → Option FaultKind → Option Fault
at_line line fault = option_map (λ kind. fault_at kind line) fault
