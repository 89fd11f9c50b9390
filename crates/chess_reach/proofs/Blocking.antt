-- The squares that can be blocked.
use Rattle.chess_attacks.proofs.Chess.{List, bit_at, bit_or, cases_eq, inl, inr, length, on_left, on_right, sym, true, ℕ, ◌<◌, ◌==◌, ◌∙◌, ◌≡◌, ap}
use Rattle.std.proofs.Common.{Bool, subst, slice_index_or, slice_set, ◌-◌, ◌^◌, ◌≤◌}
use Rattle.chess_core.specs.declared.man.Kind.{Kind}
use Rattle.chess_core.specs.declared.man.Man.{Man}
use Rattle.chess_reach.proofs.Getting.{every_on}
use Rattle.chess_reach.specs.Reach.{Gets}
use Rattle.chess_reach.specs.declared.whereabouts.Whereabouts.{Whereabouts}
use Rattle.chess_reach.specs.ties.Whereabouts.{has}
use Rattle.chess_reach.specs.ties.Ways.{IsChain, IsUsual, nowhere}
use Rattle.std.proofs.lemmas.List.{get_or-set_other, get_or-set_same}

-- squares are added at one index
pub added_kept : (ws : List ℕ) (i v n t : ℕ) → i < length ws → (bit_at (slice_index_or ws n 0) t == 1) ≡ true
    → (bit_at (slice_index_or (slice_set ws i (bit_or (slice_index_or ws i 0) v)) n 0) t == 1) ≡ true
added_kept ws i v n t room on = elim (cases_eq n i) [
  | inr off ↦ ap (λ w. bit_at w t == 1) (get_or-set_other ws i n (bit_or (slice_index_or ws i 0) v) 0 off) ∙ on
  | inl same ↦ ap (λ w. bit_at w t == 1)
      (ap (λ m. slice_index_or (slice_set ws i (bit_or (slice_index_or ws i 0) v)) m 0) same ∙ get_or-set_same ws i (bit_or (slice_index_or ws i 0) v) 0 room)
      ∙ on_left (slice_index_or ws i 0) v t (ap (λ m. bit_at (slice_index_or ws m 0) t == 1) (sym same) ∙ on)
]

-- they are there
pub added_there : (ws : List ℕ) (i v t : ℕ) → i < length ws → (bit_at v t == 1) ≡ true
    → (bit_at (slice_index_or (slice_set ws i (bit_or (slice_index_or ws i 0) v)) i 0) t == 1) ≡ true
added_there ws i v t room on =
    ap (λ w. bit_at w t == 1) (get_or-set_same ws i (bit_or (slice_index_or ws i 0) v) 0 room) ∙ on_right (slice_index_or ws i 0) v t on

-- a man gets where its chain says, whatever it captures
pub man_gets : (rb : Bool) (m s : ℕ) (y : Man) (chain : List Whereabouts) (x : Man) → x ≡ y → IsChain rb (2 ^ 64 - 1) y s m chain
    → (allowed : Kind → Bool) (n : ℕ) (j : Kind) (t : ℕ) → IsUsual allowed → n ≤ m → (takes : ℕ → Bool) → Gets rb allowed takes x.colour n x.kind s j t
    → has x.kind j t (slice_index_or chain n nowhere) ≡ true
man_gets rb m s y chain x same h allowed n j t usual le takes way =
    subst (λ (z : Man). has z.kind j t (slice_index_or chain n nowhere) ≡ true) (sym same)
    (h.gets allowed takes n j t (every_on takes) le usual (subst (λ (z : Man). Gets rb allowed takes z.colour n z.kind s j t) same way))
