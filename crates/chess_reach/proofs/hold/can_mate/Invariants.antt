use Rattle.std.proofs.Common.{List, Option, ℕ, ◌<◌}
use Rattle.chess_core.specs.declared.man.Man.{Man}
use Rattle.chess_reach.specs.Plans.{Ends}
use Rattle.chess_reach.specs.ties.Hold.{DoesCheck, Holds}
use Rattle.chess_reach.proofs.hold.can_mate.Given as goal

abbrev pub invariant-loop-i : goal.invariant-loop-i
invariant-loop-i l = record {
  none : (men : List (Option Man)) (ends : Ends) (m : ℕ) → Holds l.quest men l.posts l.unheld l.ours l.theirs ends → m < l.i → DoesCheck l.quest ends m → ⊥;
}
