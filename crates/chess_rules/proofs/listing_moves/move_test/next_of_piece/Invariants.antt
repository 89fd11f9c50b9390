use Rattle.chess_rules.proofs.Chess.{None, bit_at, false, true, ℕ, ◌<◌, ◌==◌, ◌≡◌, ◌≤◌}
use Rattle.chess_attacks.proofs.HoldTaken.{HoldTaken}
use Rattle.chess_rules.proofs.Targeting.{arrival_from}
use Rattle.chess_rules.proofs.listing_moves.move_test.next_of_piece.Given as goal

-- no move to a square that was taken meets the test
abbrev pub invariant-loop-to : goal.invariant-loop-to
invariant-loop-to g l = record {
  board : l.board ≡ l.fn.board;
  ahead : (t : ℕ) → t < 64 → (bit_at l.rest t == 1) ≡ true → (arrival_from l.start ≤ t) × ((bit_at l.squares t == 1) ≡ true);
  none : HoldTaken l.squares l.rest
      (λ t. arrival_from l.start ≤ t → g.S.MoveTest.test g.R.Rules.rule l.fn.board (record { from = l.from; to = t; promo = None }) ≡ false);
}

abbrev pub decreases-loop-to : goal.decreases-loop-to
decreases-loop-to g l = l.rest
