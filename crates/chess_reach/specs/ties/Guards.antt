-- The men and squares among which a plan is searched (own).
use Rattle.std.specs.Prelude.{ℕ, ◌≡◌, ◌≢◌, ◌≤◌, ◌<◌, ◌==◌, Bool, false, true, ◌&&◌, not, if◌then◌else◌, [], List, Option, Some, slice_index_or}
use Rattle.std.specs.Int.{bit_at}
use Rattle.std.specs.List.{range_with_len, sum_by}
use Rattle.chess_core.specs.Position.{is_man, is_of_colour, man_on}
use Rattle.chess_core.specs.Squares.{squares}
use Rattle.chess_core.specs.declared.man.Colour.{Colour}
use Rattle.chess_core.specs.declared.man.Kind.{Kind}
use Rattle.chess_core.specs.declared.man.Kind.TheVariants.{King, Knight, Pawn}
use Rattle.chess_core.specs.declared.man.Man.{Man}
use Rattle.chess_reach.specs.Plans.{End}
use Rattle.chess_reach.specs.Reach.{Gets}
use Rattle.chess_reach.specs.declared.guards.Guard.{Guard}
use Rattle.chess_reach.specs.ties.Whereabouts.{has}
use Rattle.chess_reach.specs.ties.Ways.{CanBe, IsChain, nowhere}

-- a post that isn't used
abbrev pub unused : Guard
unused = record { kind = King; from = 0; chain = [] }

-- the guard with this number
abbrev pub guard_at : List Guard → ℕ → Guard
guard_at gs i = slice_index_or gs i unused

-- the man gets to this end
pub record CanEnd (g : Guard) (e : End) : Type 0 where
  pub gets : has g.kind e.kind e.square (slice_index_or g.chain e.moves nowhere) ≡ true
  pub few : e.moves < 9
  pub be : CanBe g.kind e.kind
  pub small : e.square < 64
  pub stands : e.moves ≡ 0 → g.kind ≡ e.kind

-- where nobody is reborn, a knight isn't back on its square after one move, and a pawn never
pub record StaysAway (rb : Bool) (g : Guard) (e : End) : Type 0 where
  pub returns : rb ≡ false → g.kind ≡ Knight → e.square ≡ g.from → e.moves ≢ 1
  pub advances : rb ≡ false → g.kind ≡ Pawn → e.kind ≡ Pawn → e.square ≡ g.from → e.moves ≡ 0

-- the guards are the men of colour c, each with its chain of m moves and captures on the bitboard `prey`
pub record AreGuards (rb : Bool) (prey : ℕ) (men : List (Option Man)) (c : Colour) (m : ℕ)
    (gs : List Guard) (count : ℕ) : Type 0 where
  pub few : count ≤ 8
  pub each : (i : ℕ) → i < count
      → man_on men (guard_at gs i).from ≡ Some (record { colour = c; kind = (guard_at gs i).kind })
  pub small : (i : ℕ) → i < count → (guard_at gs i).from < 64
  pub chains : (i : ℕ) → i < count
      → IsChain rb prey (record { colour = c; kind = (guard_at gs i).kind }) (guard_at gs i).from m
      (guard_at gs i).chain
  pub all : (s : ℕ) → s < 64 → is_of_colour (man_on men s) c ≡ true
      → (i : ℕ) × (i < count) × ((guard_at gs i).from ≡ s)
  pub sum : (f : ℕ → ℕ) → sum_by (λ i. f (guard_at gs i).from) (range_with_len 0 count)
      ≤ sum_by (λ s. if is_of_colour (man_on men s) c then f s else 0) squares

-- a man of colour c, other than its king, is on s
abbrev pub is_blocker : List (Option Man) → Colour → ℕ → Bool
is_blocker men c s = is_of_colour (man_on men s) c && not (is_man (man_on men s) c King)

-- the squares of ws to which men of colour c other than the king get, by the number of moves, up to m
pub record AreBlocks (rb : Bool) (allowed : Kind → Bool) (men : List (Option Man)) (c : Colour)
    (m : ℕ) (ws : List ℕ) : Type 0 where
  pub gets : (s : ℕ) (x : Man) (n : ℕ) (j : Kind) (t : ℕ) → s < 64 → man_on men s ≡ Some x
      → is_blocker men c s ≡ true → n ≤ m → (takes : ℕ → Bool)
      → Gets rb allowed takes x.colour n x.kind s j t
      → (bit_at (slice_index_or ws n 0) t == 1) ≡ true
