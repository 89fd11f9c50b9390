-- Where a man gets, as the search for plans computes it (own).
use Rattle.std.specs.Prelude.{ℕ, ◌≡◌, ◌≢◌, ◌≤◌, ◌<◌, ◌==◌, Bool, true, false, ◌||◌, ◌&&◌, List, slice_index_or}
use Rattle.chess_core.specs.declared.man.Colour.TheVariants.{White, Black}
use Rattle.std.specs.Int.{bit_at}
use Rattle.chess_core.specs.Position.{Position, is_fairy, may_promote, same_kind}
use Rattle.chess_core.specs.Squares.{is_square, rank_of}
use Rattle.chess_core.specs.Steps.{along}
use Rattle.chess_core.specs.declared.man.Colour.{Colour}
use Rattle.chess_attacks.specs.Reaches.{forward}
use Rattle.chess_rules.specs.Legal.{second_rank}
use Rattle.chess_core.specs.declared.man.Kind.{Kind}
use Rattle.chess_core.specs.declared.man.Kind.TheVariants.{Grasshopper, King, Pawn}
use Rattle.chess_core.specs.declared.man.Man.{Man}
use Rattle.chess_reach.specs.Reach.{Gets, Starts, goes}
use Rattle.chess_reach.specs.declared.whereabouts.Whereabouts.{Whereabouts}
use Rattle.chess_reach.specs.ties.Whereabouts.{has}

-- no square
abbrev pub nowhere : Whereabouts
nowhere = record { unpromoted = 0; queen = 0; knight = 0 }

-- a pawn steps from s to t
abbrev pub steps_to : Colour → ℕ → ℕ → Bool
steps_to c s t = is_square (along s (forward c) 1) t
    || (rank_of s == second_rank c && is_square (along s (forward c) 2) t)

-- one of two bitboards, by the colour
abbrev pub by_side : Colour → ℕ → ℕ → ℕ
by_side White w b = w
by_side Black w b = b

-- a promotion to this kind isn't followed: neither a knight's leaps nor a queen's lines, which are followed of
-- promoted pawns, reach all that such a man reaches
abbrev pub is_unfollowed : Kind → Bool
is_unfollowed Grasshopper = false
is_unfollowed k = is_fairy k

-- pawns may promote to this kind, and promotions to it aren't followed
abbrev pub may_promote_to_unfollowed : Position → Kind → Bool
may_promote_to_unfollowed p k = is_unfollowed k && may_promote p k

-- a man that is now of kind k can be of kind j: a pawn as itself or promoted, but not to king nor to a kind
-- that isn't followed, and another man as itself
pub record CanBe (k j : Kind) : Type 0 where
  pub piece : same_kind k Pawn ≡ false → j ≡ k
  pub followed : same_kind k Pawn ≡ true → is_unfollowed j ≡ false
  pub king : same_kind k Pawn ≡ true → j ≢ King

-- pawns promote neither to king nor to a kind that isn't followed, and don't stay pawns
pub record IsUsual (allowed : Kind → Bool) : Type 0 where
  pub king : allowed King ≡ false
  pub pawn : allowed Pawn ≡ false
  pub followed : (k : Kind) → is_unfollowed k ≡ true → allowed k ≡ false

-- pawns capture on squares of the bitboard `prey` alone
abbrev pub TakesOn : (ℕ → Bool) → ℕ → Type 0
TakesOn takes prey = (t : ℕ) → t < 64 → takes t ≡ true → (bit_at prey t == 1) ≡ true

-- in one move the man gets from where it can be, b, to w
pub record Leads (prey : ℕ) (x : Man) (b w : Whereabouts) : Type 0 where
  pub leads : (allowed : Kind → Bool) (takes : ℕ → Bool) (i j : Kind) (q t : ℕ) → TakesOn takes prey
      → q < 64 → t < 64 → CanBe x.kind i
      → allowed Pawn ≡ false → goes allowed takes x.colour i q j t ≡ true
      → has x.kind i q b ≡ true → has x.kind j t w ≡ true

-- without a move the man can be from v on w
pub record Rests (rb : Bool) (x : Man) (v w : Whereabouts) : Type 0 where
  pub rests : (j : Kind) (r t : ℕ) → r < 64 → CanBe x.kind j → has x.kind j r v ≡ true
      → Starts rb x.colour j r t → has x.kind j t w ≡ true

-- within n moves, at most m, the man gets from s only to where the n-th of the chain has it; later ones
-- have it too
pub record IsChain (rb : Bool) (prey : ℕ) (x : Man) (s m : ℕ)
    (chain : List Whereabouts) : Type 0 where
  pub gets : (allowed : Kind → Bool) (takes : ℕ → Bool) (n : ℕ) (j : Kind) (t : ℕ)
      → TakesOn takes prey
      → n ≤ m → IsUsual allowed → Gets rb allowed takes x.colour n x.kind s j t
      → has x.kind j t (slice_index_or chain n nowhere) ≡ true
  pub grows : (n l : ℕ) (j : Kind) (t : ℕ) → n ≤ l → l ≤ m → t < 64
      → has x.kind j t (slice_index_or chain n nowhere) ≡ true
      → has x.kind j t (slice_index_or chain l nowhere) ≡ true
