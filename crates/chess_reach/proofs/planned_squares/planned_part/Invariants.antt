use Rattle.std.proofs.Common.{true, ℕ, ◌≤◌, ◌==◌, ◌≡◌}
use Rattle.std.specs.Int.{bit_at}
use Rattle.chess_attacks.proofs.HoldTaken.{HoldTaken}
use Rattle.chess_core.specs.Position.{Position}
use Rattle.chess_reach.specs.Plans.{Ends, IsPlan}
use Rattle.chess_reach.specs.ties.Hold.{Captures, IsQuestOf}
use Rattle.chess_reach.proofs.planned_squares.planned_part.Given as goal

abbrev pub invariant-loop-to : goal.invariant-loop-to
invariant-loop-to l = record {
  count : l.quest.count ≤ 8;
  ending : l.quest.ending ≡ l.fn.quest.ending;
  colour : l.quest.colour ≡ l.fn.quest.colour;
  blockable : l.quest.blockable ≡ l.fn.quest.blockable;
  of : (prey : ℕ) (p : Position) → IsQuestOf prey p l.fn.quest l.king l.ours l.theirs → IsQuestOf prey p l.quest l.king l.ours l.theirs;
  taken : HoldTaken l.near l.rest (λ s. (prey : ℕ) (p : Position) (ends : Ends) → IsQuestOf prey p l.fn.quest l.king l.ours l.theirs
      → IsPlan l.fn.quest.ending.goal l.fn.quest.ending.standing_checks l.fn.quest.ending.are_reborn p l.fn.quest.colour l.ours l.theirs s ends → Captures l.fn.quest.ending.are_reborn prey l.captured p l.fn.quest.colour ends → (bit_at l.planned s == 1) ≡ true);
}

abbrev pub decreases-loop-to : goal.decreases-loop-to
decreases-loop-to l = l.rest
