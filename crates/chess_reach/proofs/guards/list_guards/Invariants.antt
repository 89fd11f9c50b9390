use Rattle.std.proofs.Common.{Some, length, true, ℕ, ◌+◌, ◌<◌, ◌≤◌, ◌==◌, ◌≡◌, if◌then◌else◌}
use Rattle.std.specs.Int.{bit_at}
use Rattle.std.specs.List.{range_with_len, sum_by}
use Rattle.chess_attacks.proofs.HoldTaken.{HoldTaken}
use Rattle.chess_core.specs.Position.{is_of_colour, man_on}
use Rattle.chess_core.specs.Squares.{squares}
use Rattle.chess_reach.specs.ties.Guards.{guard_at}
use Rattle.chess_reach.specs.ties.Ways.{IsChain}
use Rattle.chess_core.specs.ties.Words.{side_of}
use Rattle.chess_reach.proofs.guards.list_guards.Given as goal

abbrev pub invariant-loop-from : goal.invariant-loop-from
invariant-loop-from l = record {
  few : l.count ≤ 8;
  size : length l.guards ≡ 8;
  each : (i : ℕ) → i < l.count → man_on l.board.men (guard_at l.guards i).from ≡ Some (record { colour = l.fn.colour; kind = (guard_at l.guards i).kind });
  small : (i : ℕ) → i < l.count → (guard_at l.guards i).from < 64;
  chains : (i : ℕ) → i < l.count
      → IsChain l.fn.are_reborn l.fn.prey (record { colour = l.fn.colour; kind = (guard_at l.guards i).kind }) (guard_at l.guards i).from l.fn.most (guard_at l.guards i).chain;
  all : HoldTaken (side_of l.board.men l.fn.colour) l.rest (λ s. (i : ℕ) × (i < l.count) × ((guard_at l.guards i).from ≡ s));
  inside : (s : ℕ) → (bit_at l.rest s == 1) ≡ true → (bit_at (side_of l.board.men l.fn.colour) s == 1) ≡ true;
  sum : (f : ℕ → ℕ) → sum_by (λ i. f (guard_at l.guards i).from) (range_with_len 0 l.count)
      + sum_by (λ s. if bit_at l.rest s == 1 then f s else 0) squares ≤ sum_by (λ s. if is_of_colour (man_on l.board.men s) l.fn.colour then f s else 0) squares;
}

abbrev pub decreases-loop-from : goal.decreases-loop-from
decreases-loop-from l = l.rest
