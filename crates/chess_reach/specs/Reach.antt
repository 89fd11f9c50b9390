-- How far a man gets on an empty board (own). This reaches more than on any board with men: no man blocks
-- another, and a pawn captures on any square that it attacks and on which it may capture. Where captured men
-- are reborn (Circe), a man may be on the square of its rebirth without a move of its own.
use Rattle.std.specs.Prelude.{◌≡◌, ℕ, zero, suc, ◌==◌, Bool, true, ◌&&◌, ◌||◌, if◌then◌else◌, [], Some, ◌⊎◌}
use Rattle.chess_core.specs.Squares.{rank_of, is_square}
use Rattle.chess_core.specs.Steps.{along}
use Rattle.chess_core.specs.Position.{same_kind}
use Rattle.chess_core.specs.declared.man.Colour.{Colour}
use Rattle.chess_core.specs.declared.man.Kind.{Kind}
use Rattle.chess_core.specs.declared.man.Kind.TheVariants.{Queen, Pawn, Grasshopper}
use Rattle.chess_attacks.specs.Reaches.{forward, reaches_as}
use Rattle.chess_rules.specs.Legal.{last_rank, second_rank}
use Rattle.chess_rules.specs.Play.{rebirth}

-- a grasshopper goes along a queen's lines, and no farther
abbrev pub without_hops : Kind → Kind
without_hops Grasshopper = Queen
without_hops k = k

-- a man of this colour and kind on s guards t, if no man stands between
unfoldable pub guards : Colour → Kind → ℕ → ℕ → Bool
guards c k s t = reaches_as [] c (without_hops k) s t

-- a pawn goes from s to t: it steps, or it captures on a square of `takes`
unfoldable pub pawn_goes : (ℕ → Bool) → Colour → ℕ → ℕ → Bool
pawn_goes takes c s t =
    is_square (along s (forward c) 1) t
    || (rank_of s == second_rank c && is_square (along s (forward c) 2) t)
    || (guards c Pawn s t && takes t)

-- a man of kind k that goes to t is then of kind j: a pawn on its last rank promotes to a kind of `allowed`
abbrev pub becomes : (Kind → Bool) → Colour → Kind → ℕ → Kind → Bool
becomes allowed c k t j =
    if same_kind k Pawn && rank_of t == last_rank c then allowed j else same_kind k j

-- in one move a man of kind k on s gets to t, and is then of kind j
unfoldable pub goes : (Kind → Bool) → (ℕ → Bool) → Colour → Kind → ℕ → Kind → ℕ → Bool
goes allowed takes c k s j t =
    (if same_kind k Pawn then pawn_goes takes c s t else guards c k s t) && becomes allowed c k t j

-- without a move a man of kind k on s can be on t: there it is, or, if men are reborn, there it is reborn
abbrev pub Starts : Bool → Colour → Kind → ℕ → ℕ → Type 0
Starts reborn c k s t = (s ≡ t) ⊎ ((reborn ≡ true) × (rebirth c k s ≡ Some t))

-- in n moves a man of kind k on s gets to t, and is then of kind j
unfoldable pub Gets : Bool → (Kind → Bool) → (ℕ → Bool) → Colour → ℕ → Kind → ℕ → Kind → ℕ → Type 0
Gets reborn allowed takes c zero k s j t = (k ≡ j) × Starts reborn c k s t
Gets reborn allowed takes c (suc n) k s j t = (h : ℕ) × (i : Kind) × (q : ℕ)
    × Starts reborn c k s h × (goes allowed takes c k h i q ≡ true)
    × Gets reborn allowed takes c n i q j t
