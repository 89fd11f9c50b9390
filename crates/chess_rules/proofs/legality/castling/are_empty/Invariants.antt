use Rattle.chess_rules.proofs.Chess.{is_vacant, true, ℕ, ◌<◌, ◌≡◌, ◌≤◌}
use Rattle.chess_rules.proofs.legality.castling.are_empty.Given as goal

abbrev pub invariant-loop-number : goal.invariant-loop-number
invariant-loop-number l = (k : ℕ) → l.low ≤ k → k < l.number → is_vacant l.board.men k ≡ true
