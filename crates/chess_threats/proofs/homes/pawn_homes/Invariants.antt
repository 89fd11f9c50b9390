use Rattle.chess_threats.proofs.Chess.{HoldTaken, Pawn, Some, bit_at, file_of, rebirth, true, ℕ, ◌==◌, ◌≡◌}
use Rattle.chess_threats.proofs.homes.pawn_homes.Given as goal

abbrev pub invariant-loop-from : goal.invariant-loop-from
invariant-loop-from l =
    HoldTaken l.pawns l.rest (λ s. (t r : ℕ) → file_of t ≡ file_of s → rebirth l.colour Pawn t ≡ Some r → (bit_at l.homes r == 1) ≡ true)

abbrev pub decreases-loop-from : goal.decreases-loop-from
decreases-loop-from l = l.rest
