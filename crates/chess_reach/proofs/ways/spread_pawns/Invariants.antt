use Rattle.chess_attacks.proofs.HoldTaken.{HoldTaken}
use Rattle.chess_reach.specs.Reach.{pawn_goes}
use Rattle.chess_reach.specs.ties.Ways.{TakesOn}
use Rattle.std.proofs.Common.{Bool, ◌≡◌, ◌==◌, ◌<◌, ℕ, true}
use Rattle.std.specs.Int.{bit_at}
use Rattle.chess_reach.proofs.ways.spread_pawns.Given as goal

abbrev pub invariant-loop-from : goal.invariant-loop-from
invariant-loop-from l = record {
  kept : (t : ℕ) → (bit_at l.fn.squares t == 1) ≡ true → (bit_at l.reached t == 1) ≡ true;
  taken : HoldTaken l.squares l.rest (λ s. (takes : ℕ → Bool) (t : ℕ) → TakesOn takes l.prey → t < 64 → pawn_goes takes l.colour s t ≡ true
      → (bit_at l.reached t == 1) ≡ true);
}

abbrev pub decreases-loop-from : goal.decreases-loop-from
decreases-loop-from l = l.rest
