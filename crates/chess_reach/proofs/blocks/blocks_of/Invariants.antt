use Rattle.std.proofs.Common.{Some, true, ℕ, ◌==◌, ◌≡◌, ◌≤◌, Bool, slice_index_or}
use Rattle.std.specs.Int.{bit_at}
use Rattle.chess_attacks.proofs.HoldTaken.{HoldTaken}
use Rattle.chess_core.specs.Position.{man_on}
use Rattle.chess_core.specs.declared.man.Kind.{Kind}
use Rattle.chess_core.specs.declared.man.Man.{Man}
use Rattle.chess_reach.specs.Reach.{Gets}
use Rattle.chess_reach.specs.ties.Ways.{IsUsual}
use Rattle.chess_reach.proofs.blocks.blocks_of.Given as goal

abbrev pub invariant-loop-from : goal.invariant-loop-from
invariant-loop-from l = HoldTaken l.men l.rest (λ s. (allowed : Kind → Bool) (x : Man) (n : ℕ) (j : Kind) (t : ℕ) → IsUsual allowed
    → man_on l.board.men s ≡ Some x → n ≤ l.fn.most → (takes : ℕ → Bool) → Gets l.fn.are_reborn allowed takes x.colour n x.kind s j t → (bit_at (slice_index_or l.blocks n 0) t == 1) ≡ true)

abbrev pub decreases-loop-from : goal.decreases-loop-from
decreases-loop-from l = l.rest
