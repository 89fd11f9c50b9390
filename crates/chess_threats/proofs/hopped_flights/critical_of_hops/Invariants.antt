use Rattle.chess_threats.proofs.Chess.{Grasshopper, LeavesUntaken, Man, bit_at, false, same_kind, true, ℕ, ◌<◌, ◌==◌, ◌≡◌}
use Rattle.chess_flights.proofs.Hurdles.{IsRest}
use Rattle.chess_threats.proofs.hopped_flights.critical_of_hops.Given as goal

abbrev pub invariant-loop-flight : goal.invariant-loop-flight
invariant-loop-flight l = IsRest l.near l.rest
    × ((x : Man) (t : ℕ) → same_kind x.kind Grasshopper ≡ true → t < 64 → (bit_at l.targets t == 1) ≡ true → (bit_at l.taking t == 1) ≡ false
    → LeavesUntaken l.hurdles l.king l.near l.enemies l.critical x t)

abbrev pub decreases-loop-flight : goal.decreases-loop-flight
decreases-loop-flight l = l.rest
