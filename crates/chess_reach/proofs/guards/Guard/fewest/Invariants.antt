use Rattle.std.proofs.Common.{true, ℕ, ◌-◌, ◌<◌, ◌≤◌, ◌≡◌, slice_index_or}
use Rattle.chess_core.specs.declared.man.Kind.{Kind}
use Rattle.chess_reach.specs.ties.Whereabouts.{has}
use Rattle.chess_reach.specs.ties.Ways.{nowhere}
use Rattle.chess_reach.proofs.guards.Guard.fewest.Given as goal

abbrev pub invariant-loop-moves : goal.invariant-loop-moves
invariant-loop-moves l = record {
  low : l.least ≤ l.moves;
  none : (k j : Kind) (s n : ℕ) → l.least ≤ n → n < l.moves → has k j s (slice_index_or l.self.chain n nowhere) ≡ true → has k j s l.squares ≡ true → ⊥;
}

abbrev pub decreases-loop-moves : goal.decreases-loop-moves
decreases-loop-moves l = 9 - l.moves
