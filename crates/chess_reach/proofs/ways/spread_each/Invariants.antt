use Rattle.chess_attacks.proofs.HoldTaken.{HoldTaken}
use Rattle.chess_attacks.specs.ties.Lines.{AreReached}
use Rattle.std.proofs.Common.{◌≡◌, ◌==◌, ℕ, true}
use Rattle.std.specs.Int.{bit_at}
use Rattle.chess_reach.proofs.ways.spread_each.Given as goal

abbrev pub invariant-loop-from : goal.invariant-loop-from
invariant-loop-from l = record {
  kept : (t : ℕ) → (bit_at l.fn.squares t == 1) ≡ true → (bit_at l.reached t == 1) ≡ true;
  taken : HoldTaken l.squares l.rest (λ s. AreReached (record { colour = l.fn.colour; kind = l.fn.kind }) s l.reached);
}

abbrev pub decreases-loop-from : goal.decreases-loop-from
decreases-loop-from l = l.rest
