-- What the search for a plan knows (own).
use Rattle.std.specs.Prelude.{ℕ, ◌≡◌, ◌≢◌, ◌≤◌, ◌<◌, ◌-◌, ◌^◌, ◌==◌, Bool, true, false, length, ◌&&◌, not, if◌then◌else◌, List, Option, Some, slice_index_or, ◌⊎◌}
use Rattle.std.specs.Int.{bit_at}
use Rattle.std.specs.List.{range_with_len, sum_by}
use Rattle.chess_core.specs.Position.{Position, king_square, may_promote, other, same_kind}
use Rattle.chess_core.specs.Squares.{squares}
use Rattle.chess_core.specs.declared.man.Colour.{Colour}
use Rattle.chess_core.specs.declared.man.Kind.TheVariants.{King}
use Rattle.chess_core.specs.declared.man.Man.{Man}
use Rattle.chess_reach.specs.Plans.{Arrives, End, Ends, may_capture}
use Rattle.chess_reach.specs.Reach.{guards}
use Rattle.chess_reach.specs.declared.guards.Guard.{Guard}
use Rattle.chess_reach.specs.declared.hold.Post.{Post}
use Rattle.chess_reach.specs.declared.hold.Quest.{Quest}
use Rattle.chess_rules.specs.Play.{rebirth}
use Rattle.chess_reach.specs.ties.Guards.{AreBlocks, AreGuards, CanEnd, StaysAway, guard_at, is_blocker}
use Rattle.chess_reach.specs.ties.Whereabouts.{has}
use Rattle.chess_reach.specs.ties.Ways.{IsChain, IsUsual, TakesOn, nowhere}

-- the post with this number
abbrev pub post_at : List Post → ℕ → Post
post_at ps i = slice_index_or ps i (record { squares = nowhere; moves = 0 })

-- the end of the guard with this number
abbrev pub end_at : Quest → Ends → ℕ → End
end_at q ends i = ends (guard_at q.guards i).from

-- the end is in the post
pub record IsIn (g : Guard) (p : Post) (e : End) : Type 0 where
  pub on : has g.kind e.kind e.square p.squares ≡ true
  pub paid : p.moves ≤ e.moves

-- the guard with number i guards t from its end, which isn't the king's square
abbrev pub DoesGuard : Quest → Ends → ℕ → ℕ → Type 0
DoesGuard q ends t i = ((end_at q ends i).square ≢ q.king)
    × (guards q.colour (end_at q ends i).kind (end_at q ends i).square t ≡ true)

-- the guard with number i ends on t, and, captured there, guards it from where it is reborn
pub record DoesDefend (q : Quest) (ends : Ends) (t i : ℕ) : Type 0 where
  pub lives : q.ending.are_reborn ≡ true
  pub there : (end_at q ends i).square ≡ t
  pub home : ℕ
  pub rebirth : rebirth q.colour (end_at q ends i).kind t ≡ Some home
  pub off : home ≢ t
  pub guards : guards q.colour (end_at q ends i).kind home t ≡ true

-- the guard with number i holds t
abbrev pub DoesHold : Quest → Ends → ℕ → ℕ → Type 0
DoesHold q ends t i = DoesGuard q ends t i ⊎ DoesDefend q ends t i

-- the guard with number i checks from its end
abbrev pub DoesCheck : Quest → Ends → ℕ → Type 0
DoesCheck q ends i = DoesGuard q ends q.king i × Arrives q.ending.standing_checks (end_at q ends i)

-- t is guarded or blocked
abbrev pub IsHeld : Quest → List (Option Man) → Ends → ℕ → Type 0
IsHeld q men ends t =
    ((i : ℕ) × (i < q.count) × DoesHold q ends t i)
    ⊎ ((s : ℕ) × (s < 64) × (is_blocker men (other q.colour) s ≡ true) × ((ends s).square ≡ t)
    × ((ends s).taken ≡ false))

-- the moves that blockers spend who end on squares of the bitboard w and aren't captured
abbrev pub blocks_in : Quest → List (Option Man) → Ends → ℕ → ℕ → Bool
blocks_in q men ends w s =
    (is_blocker men (other q.colour) s && not (ends s).taken) && (bit_at w (ends s).square == 1)

unfoldable pub blocked : Quest → List (Option Man) → Ends → ℕ → ℕ
blocked q men ends w = sum_by (λ s. if blocks_in q men ends w s then (ends s).moves else 0) squares

-- the moves of the guards' ends, less the moves of their posts
unfoldable pub unpaid : Quest → List Post → Ends → ℕ
unpaid q posts ends =
    sum_by (λ i. (end_at q ends i).moves - (post_at posts i).moves) (range_with_len 0 q.count)

-- guards end in their posts, with at most `ours` moves beyond those, and hold the squares of w with
-- blockers that spend at most `theirs` moves
pub record Holds (q : Quest) (men : List (Option Man)) (posts : List Post) (w ours theirs : ℕ)
    (ends : Ends) : Type 0 where
  pub guards : (i : ℕ) → i < q.count → CanEnd (guard_at q.guards i) (end_at q ends i)
  pub away : (i : ℕ) → i < q.count
      → StaysAway q.ending.are_reborn (guard_at q.guards i) (end_at q ends i)
  pub blockers : (s : ℕ) → s < 64 → is_blocker men (other q.colour) s ≡ true
      → (bit_at (slice_index_or q.blockable (ends s).moves 0) (ends s).square == 1) ≡ true
  pub few : (s : ℕ) → s < 64 → is_blocker men (other q.colour) s ≡ true → (ends s).moves < 9
  pub inside : (i : ℕ) → i < q.count
      → IsIn (guard_at q.guards i) (post_at posts i) (end_at q ends i)
  pub paid : unpaid q posts ends ≤ ours
  pub blocking : blocked q men ends w ≤ theirs
  pub holds : (t : ℕ) → t < 64 → (bit_at w t == 1) ≡ true → IsHeld q men ends t

-- a mating king doesn't end next to the other
pub record IsApart (q : Quest) (ends : Ends) : Type 0 where
  pub apart : (i : ℕ) → i < q.count → same_kind (guard_at q.guards i).kind King ≡ true
      → guards q.colour King (end_at q ends i).square q.king ≡ false

-- guards capture as pawns on the bitboard `prey` alone, and some captured man makes at least n moves
pub record Captures (rb : Bool) (prey n : ℕ) (p : Position) (c : Colour)
    (ends : Ends) : Type 0 where
  pub on : TakesOn (may_capture rb p.men c ends c) prey
  pub moves : 0 < n → (s : ℕ) × (s < 64) × (is_blocker p.men (other c) s ≡ true)
      × ((ends s).taken ≡ true) × (n ≤ (ends s).moves)

-- the quest has the blockers and the king of the position, and its guards aren't listed yet
pub record IsBegun (p : Position) (q : Quest) (king : Guard) (theirs : ℕ) : Type 0 where
  pub size : length p.men ≡ 64
  pub few : theirs < 9
  pub blocks : AreBlocks q.ending.are_reborn (may_promote p) p.men (other q.colour) theirs
      q.blockable
  pub usual : IsUsual (may_promote p)
  pub kind : king.kind ≡ King
  pub stands : king_square p.men (other q.colour) ≡ Some king.from
  pub small : king.from < 64
  pub way : IsChain q.ending.are_reborn (2 ^ 64 - 1)
      (record { colour = other q.colour; kind = King })
      king.from theirs king.chain

-- the quest has the guards, the blockers and the king of the position
pub record IsQuestOf (prey : ℕ) (p : Position) (q : Quest) (king : Guard)
    (ours theirs : ℕ) : Type 0 where
  pub size : length p.men ≡ 64
  pub few : theirs < 9
  pub guards : AreGuards q.ending.are_reborn prey p.men q.colour ours q.guards q.count
  pub blocks : AreBlocks q.ending.are_reborn (may_promote p) p.men (other q.colour) theirs
      q.blockable
  pub usual : IsUsual (may_promote p)
  pub kind : king.kind ≡ King
  pub stands : king_square p.men (other q.colour) ≡ Some king.from
  pub small : king.from < 64
  pub way : IsChain q.ending.are_reborn (2 ^ 64 - 1)
      (record { colour = other q.colour; kind = King })
      king.from theirs king.chain
