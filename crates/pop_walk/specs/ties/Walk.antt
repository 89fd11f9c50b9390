-- What the frames of a walk mean (own).
use Rattle.pop_walk.specs.Events.{Path}
pub use Rattle.pop_stipulation.specs.declared.stipulation.Battle.{Battle}
use Rattle.pop_stipulation.specs.declared.stipulation.Battle.TheVariants.{Direct, SelfMate}
pub use Rattle.pop_stipulation.specs.declared.stipulation.Goal.TheVariants.{Mate}
use Rattle.std.specs.Prelude.{◌≡◌, ℕ, zero, suc, ◌+◌, ◌-◌, ◌*◌, ◌/◌, ◌≤◌, ◌<◌, ◌==◌, Bool, true, false, not, ◌&&◌, ◌||◌, if◌then◌else◌, List, [], ◌∷◌, ◌++◌, map, length, filter, Option, Some, None, IfSome, MatchOption, ◌⊎◌}
use Rattle.std.specs.List.{flat_map}
pub use Rattle.chess_core.specs.Position.{Position}
use Rattle.chess_core.specs.Position.{king_square}
use Rattle.chess_core.specs.declared.man.Move.{Move}
pub use Rattle.chess_core.specs.WellFormed.{IsWellFormed}
use Rattle.chess_reach.specs.Lines.{HoldsEnds}
use Rattle.chess_rules.specs.Play.{position_after}
use Rattle.chess_rules.specs.ties.Places.{IsPlaceIn, LegalPlace, all_triples, moves_after}
use Rattle.chess_flights.specs.ties.Mates.{is_mating}
use Rattle.chess_rules.specs.Legal.{is_legal, is_mate}
use Rattle.chess_attacks.specs.RuleSet.{RuleSet}
use Rattle.std.specs.Int.{bit_at}
use Rattle.pop_battle.specs.Game.{Game}
pub use Rattle.pop_battle.specs.ties.Values.{attacker_to_move, value}
pub use Rattle.pop_battle.specs.Chess.{chess}
pub use Rattle.pop_battle.specs.ties.Frames.{Frame}
use Rattle.pop_battle.specs.ties.Frames.{AreCursors, learned, moved, position, IsLinked, left_at_top}
use Rattle.pop_battle.specs.ties.Skipping.{CannotBeMated, SkipsMoves}
use Rattle.pop_battle.specs.declared.frame.LineEnds.{LineEnds}
use Rattle.pop_walk.specs.declared.mode.Mode.{Mode}
pub use Rattle.pop_battle.specs.ties.Marks.{is_for_mate}

-- the fewest half-moves with which White, to move, can reach the aim
abbrev pub fewest_half_moves : Battle → ℕ
fewest_half_moves Direct = 1
fewest_half_moves SelfMate = 2

module _ {P M : Type 0} where
  -- the first of the n + 1 lengths a, a + 2, .. a + 2n within which White reaches the aim; the last one
  -- isn't tested
  unfoldable pub least_length_from : Battle → Game P M → P → ℕ → ℕ → ℕ
  least_length_from battle game q zero a = a
  least_length_from battle game q (suc n) a = if value battle game a q then a
      else least_length_from battle game q n (a + 2)

  -- how many half-moves battle play shows from q, with t half-moves left: 0 if it shows no more
  unfoldable pub shown_length : Battle → Game P M → ℕ → P → ℕ
  shown_length battle game t q =
      if t == 0 || game.goal q then 0
      else (if attacker_to_move battle t
      then least_length_from battle game q ((t - fewest_half_moves battle) / 2)
      (fewest_half_moves battle) else t)

  -- the walk follows a move to q, with t half-moves left: in a battle, White's moves and the moves of a
  -- phase's first position are tested
  unfoldable pub is_followed : Option Battle → Game P M → Bool → ℕ → P → Bool
  is_followed None game root t q = true
  is_followed (Some battle) game root t q = not (root || attacker_to_move battle (t + 1))
      || value battle game t q

  -- the path to q is emitted: in help play if the last half-move reaches the goal
  unfoldable pub is_emitted : Option Battle → Game P M → ℕ → P → Bool
  is_emitted None game t q = t == 0 && game.goal q
  is_emitted (Some battle) game t q = true

  -- how many half-moves the walk goes on from q, with t half-moves left, with variations or without
  unfoldable pub walk_length : Option Battle → Bool → Game P M → ℕ → P → ℕ
  walk_length None variation game t q = t
  walk_length (Some battle) variation game t q =
      if not variation && attacker_to_move battle (t + 1) then 0 else shown_length battle game t q

  -- the paths that the walk emits from p by these moves, with `left` half-moves; `fuel` is at least `left`
  unfoldable pub shown_paths : Mode → Game P M → Bool → ℕ → ℕ → P → List M → List (List M)
  shown_paths mode game root zero left p ms = []
  shown_paths mode game root (suc fuel) zero p ms = []
  shown_paths mode game root (suc fuel) (suc t) p ms =
      flat_map (λ m. let q = game.after p m in
      if is_followed mode.battle game root t q
      then (if is_emitted mode.battle game t q then (m ∷ []) ∷ [] else [])
      ++ map (λ path. m ∷ path) (shown_paths mode game false fuel
      (walk_length mode.battle mode.variation game t q) q (game.moves q))
      else []) ms

-- the moves that lead to the top frame
unfoldable pub path : List Frame → Path
path [] = []
path (f ∷ []) = []
path (f ∷ (g ∷ below)) = path (g ∷ below) ++ f.by ∷ []

-- the paths still to come from all frames, in order
unfoldable pub to_come : RuleSet → Mode → ℕ → Position → List Frame → List Path
to_come rule mode h p [] = []
to_come rule mode h p (f ∷ below) =
    map (λ line. path (f ∷ below) ++ line)
    (shown_paths mode (chess mode.goal rule) (length below == 0) (h - length below) f.left
    (position rule p (f ∷ below)) (moves_after rule (position rule p (f ∷ below)) f.place))
    ++ to_come rule mode h p below

-- each frame has room for its half-moves
unfoldable pub IsRoomy : ℕ → List Frame → Type 0
IsRoomy h [] = Unit {0}
IsRoomy h (f ∷ below) = (f.left + length below ≤ h) × IsRoomy h below

-- what is known of the lines from each frame's position is right
unfoldable pub AreEnds : RuleSet → Position → List Frame → Type 0
AreEnds rule p [] = Unit {0}
AreEnds rule p (f ∷ below) =
    IfSome f.line_ends
    (λ e. HoldsEnds e.goal rule f.left (position rule p (f ∷ below)) e.squares)
    × AreEnds rule p below

-- the frame with what is known of the lines from its position
abbrev pub ending : Frame → LineEnds → Frame
ending f e = record f { line_ends = Some e }

-- the board has the position of the top frame of a walk
pub record IsWalking (rule : RuleSet) (h : ℕ) (p : Position) (frames : List Frame)
    (board : Position) : Type 0 where
  pub linked : IsLinked rule p frames
  pub roomy : IsRoomy h frames
  pub cursors : AreCursors rule p frames
  pub ends : AreEnds rule p frames
  pub sound : IsWellFormed board
  pub board_at : board ≡ position rule p frames

-- the most steps for the triples after a place, with k half-moves left, in any position: each triple may be
-- a move, which opens a frame
unfoldable pub steps_after : ℕ → ℕ → ℕ
steps_after zero place = 0
steps_after (suc k) place = (all_triples - place) * (2 + steps_after k 0)

-- the most steps that a walk over h half-moves can still take, wherever it started; it falls with each step
unfoldable pub walk_work : ℕ → List Frame → ℕ
walk_work h [] = 0
walk_work h (f ∷ below) = 1 + steps_after (h - length below) f.place + walk_work h below

-- the side that makes the last half-move wants to reach the goal: either side in help play, White in a
-- direct mate
abbrev pub seeks_last : Option Battle → Bool
seeks_last None = true
seeks_last (Some battle) = attacker_to_move battle 1

-- if the move to q was the last half-move, by a side that wants mate, then it mated
abbrev pub IsMatedAtLast : RuleSet → Mode → ℕ → Position → Type 0
IsMatedAtLast rule mode left q =
    is_for_mate mode.goal ≡ true → seeks_last mode.battle ≡ true → left ≡ 0 → is_mate rule q ≡ true

-- these moves of p, with `left` half-moves left, lead to no path: there are none; or one half-move is left,
-- for a side that wants mate, and they don't mate; or two are left in help play for mate, no reply to them
-- mates, and they have counted
abbrev pub HaveNoPaths : RuleSet → Mode → ℕ → Position → (before after : ℕ) → List Move → Type 0
HaveNoPaths rule mode left p before after over =
    ((after ≡ before) × ((over ≡ []) ⊎ ((seeks_last mode.battle ≡ true) × (mode.goal ≡ Mate)
    × (left ≡ 1) × (filter (is_mating rule p) over ≡ []))))
    ⊎ ((mode.battle ≡ None) × (mode.goal ≡ Mate) × (left ≡ 2)
    × CannotBeMated rule p before after over)

-- after a move of help play to q, with t half-moves left, lines that reach the goal end on these squares
pub record AreEndsAfter (rule : RuleSet) (mode : Mode) (t : ℕ) (q : Position) (e : LineEnds)
    : Type 0 where
  pub help : mode.battle ≡ None
  pub some : 0 < t
  pub ends : HoldsEnds mode.goal rule t q e.squares
  pub same : e.goal ≡ mode.goal

-- after a move the mover's king is on none of these squares
pub record IsKingOff (rule : RuleSet) (p : Position) (m : Move) (w : ℕ) : Type 0 where
  pub king : ℕ
  pub at : king_square p.men p.turn ≡ Some king
  pub off : bit_at w (if m.from == king then m.to else king) ≡ 0

-- if something is known of the lines from the top frame, it is kept there
abbrev pub KeepsEnds : Option LineEnds → (old new : List Frame) → Type 0
KeepsEnds ends old new = MatchOption ends (new ≡ old)
    (λ e. (below : List Frame) (top : Frame) → old ≡ below ++ top ∷ []
    → new ≡ below ++ ending top e ∷ [])

-- from `place` on, the walk skips only moves without paths; the moves `rest` come after them
abbrev pub GoesTo : RuleSet → Mode → ℕ → Position → ℕ → List Move → (before after : ℕ) → Type 0
GoesTo rule mode left p place rest before after =
    SkipsMoves rule p place rest (HaveNoPaths rule mode left p before after)

-- `found` is the next move after `place` that may have a path
abbrev pub IsNextOf : RuleSet → Mode → ℕ → Position → (place next before after : ℕ) → Option Move
    → Type 0
IsNextOf rule mode left p place next before after found =
    MatchOption found
    (((left ≡ 0) × (after ≡ before)) ⊎ GoesTo rule mode left p place [] before after)
    (λ m. (0 < left)
    × GoesTo rule mode left p place (m ∷ moves_after rule p next) before after
    × (is_legal rule p m ≡ true))

-- the top frame moves on to its next move, in the board's position p
pub record MovesOn (rule : RuleSet) (mode : Mode) (p : Position) (old new : List Frame)
    (before after : ℕ) (found : Option Move) : Type 0 where
  pub below : List Frame
  pub top : Frame
  pub place : ℕ
  pub cursor : Option LegalPlace
  pub stood : old ≡ below ++ top ∷ []
  pub stands : new ≡ below ++ moved (learned top cursor) place ∷ []
  pub within : IfSome cursor (IsPlaceIn rule p)
  pub next : IsNextOf rule mode top.left p top.place place before after found
  pub mated : IfSome found (λ m. IsMatedAtLast rule mode (top.left - 1) (position_after rule p m))

-- the path that ends at a frame with `left` half-moves is known to reach the goal: always in help play,
-- and in a direct mate with variations if it is a whole variation
abbrev pub ends_at_goal : Option Battle → Bool → ℕ → Bool
ends_at_goal None variation left = true
ends_at_goal (Some battle) variation left = left == 0
    && (variation && attacker_to_move battle 1)

-- if the path to the top frame ends with the goal, the board's position reaches it
abbrev pub IsEnded : RuleSet → Mode → List Frame → Position → Type 0
IsEnded rule mode frames board = ends_at_goal mode.battle mode.variation
    (left_at_top frames) ≡ true
    → (chess mode.goal rule).goal board ≡ true

-- what one step of a walk leaves, with frames listed from the top down; `given`: the path to the new top
-- frame is emitted
pub record Steps (rule : RuleSet) (mode : Mode) (h : ℕ) (p : Position) (old new : List Frame)
    (board : Position) (given : Bool) : Type 0 where
  pub walking : IsWalking rule h p new board
  pub come : to_come rule mode h p old ≡ (if given then path new ∷ [] else [])
      ++ to_come rule mode h p new
  pub deep : given ≡ true → length new ≡ length old + 1
  pub ended : given ≡ true → IsEnded rule mode new board
  pub falls : walk_work h new < walk_work h old
