use Rattle.std.proofs.Common.{length, List, Option, ℕ, ◌<◌, ◌≡◌}
use Rattle.chess_core.specs.declared.man.Man.{Man}
use Rattle.chess_reach.specs.Plans.{Ends}
use Rattle.chess_reach.specs.ties.Hold.{DoesHold, Holds}
use Rattle.chess_reach.proofs.hold.+can_hold.Given as goal

abbrev pub decreases-can_hold : goal.decreases-can_hold
decreases-can_hold l = l.unheld

abbrev pub invariant-loop-i : goal.invariant-loop-i
invariant-loop-i l = record {
  size : length l.narrowed_posts ≡ 8;
  kept : (men : List (Option Man)) (ends : Ends) → Holds l.quest men l.posts l.unheld l.ours l.theirs ends
      → Holds l.quest men l.narrowed_posts l.unheld l.spare l.theirs ends × ((m : ℕ) → m < l.i → DoesHold l.quest ends l.square m → ⊥);
}
