use Rattle.std.proofs.Common.{length, List, Option, ℕ, ◌≡◌}
use Rattle.chess_core.specs.declared.man.Man.{Man}
use Rattle.chess_reach.specs.Plans.{Ends}
use Rattle.chess_reach.specs.ties.Hold.{Holds, IsApart}
use Rattle.chess_reach.proofs.planned_squares.keep_apart.Given as goal

abbrev pub invariant-loop-i : goal.invariant-loop-i
invariant-loop-i l = record {
  size : length l.posts ≡ 8;
  kept : (men : List (Option Man)) (ends : Ends) (w theirs : ℕ) → Holds l.quest men l.fn.posts w l.fn.most theirs ends → IsApart l.quest ends
      → Holds l.quest men l.posts w l.spare theirs ends;
}
