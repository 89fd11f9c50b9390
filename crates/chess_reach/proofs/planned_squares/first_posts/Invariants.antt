use Rattle.std.proofs.Common.{length, ℕ, ◌<◌, ◌≡◌, slice_index_or}
use Rattle.chess_reach.specs.ties.Guards.{guard_at}
use Rattle.chess_reach.specs.ties.Hold.{post_at}
use Rattle.chess_reach.specs.ties.Ways.{nowhere}
use Rattle.chess_reach.proofs.planned_squares.first_posts.Given as goal

abbrev pub invariant-loop-i : goal.invariant-loop-i
invariant-loop-i l = record {
  size : length l.posts ≡ 8;
  set : (i : ℕ) → i < l.i → post_at l.posts i ≡ record { squares = slice_index_or (guard_at l.quest.guards i).chain l.fn.most nowhere; moves = 0 };
}
