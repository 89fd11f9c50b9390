-- What the frames of a search mean (own).
use Rattle.chess_rules.specs.Play.{position_after}
use Rattle.chess_rules.specs.Legal.{moves as legal_moves}
use Rattle.pop_battle.specs.declared.aim.Aim.{Aim}
use Rattle.std.specs.Prelude.{◌≡◌, ◌<◌, IfSome, Bool, true, false, not, ◌&&◌, Option, Some, None, ℕ, zero, suc, ◌+◌, ◌-◌, ◌≤◌, ◌^◌, min, if◌then◌else◌, List, [], ◌∷◌, ◌++◌, ◌==◌, filter, length, take, drop, reverse}
use Rattle.std.specs.List.{sum_by}
use Rattle.chess_core.specs.Castling.{none_unmoved}
use Rattle.chess_core.specs.Position.{Position}
use Rattle.chess_core.specs.declared.man.Move.{Move}
use Rattle.chess_core.specs.WellFormed.{IsWellFormed}
use Rattle.chess_rules.specs.Legal.{is_legal}
use Rattle.chess_core.specs.Undo.{Undo}
use Rattle.chess_mates.specs.ties.Aims.{aims_at_king}
use Rattle.chess_rules.specs.ties.Places.{IsPlaceIn, LegalPlace, moves_after, moves_between, place_of}
use Rattle.chess_rules.specs.Play.{undo_of}
use Rattle.chess_attacks.specs.RuleSet.{RuleSet}
use Rattle.pop_battle.specs.Chess.{chess}
use Rattle.pop_battle.specs.Walks.{walk_count}
use Rattle.pop_battle.specs.ties.Counts.{smallest_below}
use Rattle.pop_battle.specs.ties.Values.{decides, attacker_to_move, join, joined_value}
use Rattle.pop_battle.specs.declared.frame.MoveStage.{MoveStage}
use Rattle.pop_battle.specs.declared.frame.MoveStage.TheVariants.{Killer, Earlier, Aimed, Others}
use Rattle.pop_battle.specs.declared.frame.Early.{Early}
use Rattle.pop_battle.specs.declared.frame.LineEnds.{LineEnds}
use Rattle.pop_battle.specs.declared.frame.Early.TheVariants.{AimedMoves, NoMoves}

-- how a test orders the moves of a position: two killers, which may be illegal moves, and which moves come
-- right after them
pub record Order : Type 0 where
  pub killer : ℕ
  pub earlier : ℕ
  pub early : Early

-- the order that tries all moves one after another
abbrev pub unordered : Order
unordered = record { killer = 0; earlier = 0; early = NoMoves }

-- a frame: the place up to which the moves of its position have been tried, the move that led there and
-- what takes it back, and the half-moves to try there; in a test the order of the moves and the stage of
-- the place; the cursor over the position's legal moves; and in help play what is known of the lines from it
pub record Frame : Type 0 where
  pub place : ℕ
  pub by : Move
  pub undo : Undo
  pub left : ℕ
  pub order : Order
  pub move_stage : MoveStage
  pub cursor : Option LegalPlace
  pub line_ends : Option LineEnds

-- a frame of no position
abbrev pub no_frame : Frame
no_frame = record {
  place = 0;
  by = record { from = 0; to = 0; promo = None };
  undo = record { captured = None; rebirth = None; unmoved = none_unmoved; crossed = None };
  left = 0;
  order = unordered;
  move_stage = Others;
  cursor = None;
  line_ends = None;
}

-- the frame with its place moved
abbrev pub moved : Frame → ℕ → Frame
moved f place = record f { place = place }

-- the frame with this cursor over its position's moves
abbrev pub learned : Frame → Option LegalPlace → Frame
learned f cursor = record f { cursor = cursor }

-- the position of the top frame, if the lowest is at p; frames are listed from the top down
unfoldable pub position : RuleSet → Position → List Frame → Position
position rule p [] = p
position rule p (f ∷ []) = p
position rule p (f ∷ (g ∷ below)) = position_after rule (position rule p (g ∷ below)) f.by

-- each frame but the lowest is reached by a legal move from the one below, and holds what takes it back
unfoldable pub IsLinked : RuleSet → Position → List Frame → Type 0
IsLinked rule p [] = Unit {0}
IsLinked rule p (f ∷ []) = Unit {0}
IsLinked rule p (f ∷ (g ∷ below)) =
    IsWellFormed (position rule p (g ∷ below))
    × (is_legal rule (position rule p (g ∷ below)) f.by ≡ true)
    × (f.undo ≡ undo_of rule (position rule p (g ∷ below)) f.by)
    × IsLinked rule p (g ∷ below)

-- the move, which is no killer, comes before other moves
abbrev pub comes_early : Early → Position → Move → Bool
comes_early AimedMoves p m = aims_at_king p m
comes_early NoMoves p m = false

-- the move's place is this one
abbrev pub is_at : ℕ → Move → Bool
is_at place m = place_of (Some m) == place

-- the move belongs to this stage, and so to no earlier one
unfoldable pub belongs : Position → Order → MoveStage → Move → Bool
belongs p order Killer m = is_at order.killer m
belongs p order Earlier m = not (is_at order.killer m) && is_at order.earlier m
belongs p order Aimed m =
    not (is_at order.killer m) && (not (is_at order.earlier m) && comes_early order.early p m)
belongs p order Others m =
    not (is_at order.killer m) && (not (is_at order.earlier m) && not (comes_early order.early p m))

-- the legal moves of a stage
abbrev pub all_moves_of : RuleSet → Position → Order → MoveStage → List Move
all_moves_of rule p order s = filter (belongs p order s) (legal_moves rule p)

-- the legal moves of a stage after a place in it
unfoldable pub moves_here : RuleSet → Position → Order → MoveStage → ℕ → List Move
moves_here rule p order Killer place = moves_between rule p place order.killer
moves_here rule p order Earlier place = moves_between rule p place order.earlier
moves_here rule p order Aimed place = filter (belongs p order Aimed) (moves_after rule p place)
moves_here rule p order Others place = filter (belongs p order Others) (moves_after rule p place)

-- the legal moves of the stages after this one
unfoldable pub moves_later : RuleSet → Position → Order → MoveStage → List Move
moves_later rule p order Killer = all_moves_of rule p order Earlier
    ++ (all_moves_of rule p order Aimed ++ all_moves_of rule p order Others)
moves_later rule p order Earlier =
    all_moves_of rule p order Aimed ++ all_moves_of rule p order Others
moves_later rule p order Aimed = all_moves_of rule p order Others
moves_later rule p order Others = []

-- the moves that a test has still to try
abbrev pub moves_ahead : RuleSet → Position → Order → MoveStage → ℕ → List Move
moves_ahead rule p order s place = moves_here rule p order s place ++ moves_later rule p order s

-- the moves that a test has still to try; while the moves aren't listed, only the killer has been
-- tested
abbrev pub moves_unlooked : RuleSet → Position → Order → MoveStage → Option LegalPlace → List Move
moves_unlooked rule p order s None = moves_later rule p order Killer
moves_unlooked rule p order s (Some cursor) = moves_ahead rule p order s cursor.place

-- the number of stages after this one
abbrev pub move_stages_after : MoveStage → ℕ
move_stages_after Killer = 3
move_stages_after Earlier = 2
move_stages_after Aimed = 1
move_stages_after Others = 0

-- the moves of a frame that a test has still to try
abbrev pub untried_moves : RuleSet → Position → Frame → List Move
untried_moves rule p f = moves_ahead rule p f.order f.move_stage f.place

-- the value of the lowest position, once v is known for the top position
unfoldable pub delivered_value : RuleSet → Aim → Position → List Frame → Bool → Bool
delivered_value rule aim p [] v = v
delivered_value rule aim p (f ∷ below) v =
    delivered_value rule aim p below (join (attacker_to_move aim.battle f.left) v
    (joined_value aim.battle (chess aim.goal rule) f.left (position rule p (f ∷ below))
    (untried_moves rule (position rule p (f ∷ below)) f)))

-- the value of the lowest position before the next move of the top frame is tried; the value after its last
-- move may be known
unfoldable pub pending_value : RuleSet → Aim → Position → List Frame → Option Bool → Bool
pending_value rule aim p [] answer = false
pending_value rule aim p (f ∷ below) (Some v) = delivered_value rule aim p (f ∷ below) v
pending_value rule aim p (f ∷ below) None =
    delivered_value rule aim p below
    (joined_value aim.battle (chess aim.goal rule) f.left (position rule p (f ∷ below))
    (untried_moves rule (position rule p (f ∷ below)) f))

-- the most turns that a test of p takes
unfoldable pub work_from : RuleSet → ℕ → Position → ℕ
work_from rule zero p = 1
work_from rule (suc h) p =
    1 + sum_by (λ m. 1 + work_from rule h (position_after rule p m)) (legal_moves rule p)

-- the most turns for these moves
unfoldable pub work_among : RuleSet → ℕ → Position → List Move → ℕ
work_among rule zero p ms = 0
work_among rule (suc h) p ms = sum_by (λ m. 1 + work_from rule h (position_after rule p m)) ms

-- the most turns left for all frames of a test
unfoldable pub test_work : RuleSet → Position → List Frame → ℕ
test_work rule p [] = 0
test_work rule p (f ∷ below) =
    1 + work_among rule f.left (position rule p (f ∷ below))
    (untried_moves rule (position rule p (f ∷ below)) f) + test_work rule p below

-- the most frames that the moves after a place can still open
unfoldable pub walk_after : RuleSet → ℕ → Position → ℕ → ℕ
walk_after rule zero p place = 0
walk_after rule (suc h) p place =
    sum_by (λ m. walk_count (legal_moves rule) (position_after rule) h (position_after rule p m))
    (moves_after rule p place)

-- the most frames that all frames of a walk can still open
unfoldable pub to_open : RuleSet → Position → List Frame → ℕ
to_open rule p [] = 0
to_open rule p (f ∷ below) =
    walk_after rule f.left (position rule p (f ∷ below)) f.place + to_open rule p below

-- the most frames that these moves can still open
unfoldable pub walk_among : RuleSet → ℕ → Position → List Move → ℕ
walk_among rule zero p ms = 0
walk_among rule (suc h) p ms = sum_by (λ m. walk_count (legal_moves rule) (position_after rule) h
    (position_after rule p m)) ms

-- the most frames that all frames of a test can still open
unfoldable pub to_test : RuleSet → Position → List Frame → ℕ
to_test rule p [] = 0
to_test rule p (f ∷ below) =
    walk_among rule f.left (position rule p (f ∷ below))
    (untried_moves rule (position rule p (f ∷ below)) f) + to_test rule p below

-- the fewest positions that a test has still to try, once v is the value after the top frame's last move
unfoldable pub to_try_with : RuleSet → Aim → Position → List Frame → Bool → ℕ
to_try_with rule aim p [] v = 0
to_try_with rule aim p (f ∷ below) v =
    (if decides (attacker_to_move aim.battle f.left) v then 0
    else smallest_below aim.battle (chess aim.goal rule) f.left (position rule p (f ∷ below))
    (untried_moves rule (position rule p (f ∷ below)) f))
    + to_try_with rule aim p below (join (attacker_to_move aim.battle f.left) v
    (joined_value aim.battle (chess aim.goal rule) f.left (position rule p (f ∷ below))
    (untried_moves rule (position rule p (f ∷ below)) f)))

-- the fewest positions that a test has still to try, before the next move of the top frame is tried
unfoldable pub to_try : RuleSet → Aim → Position → List Frame → Option Bool → ℕ
to_try rule aim p [] answer = 0
to_try rule aim p (f ∷ below) (Some v) = to_try_with rule aim p (f ∷ below) v
to_try rule aim p (f ∷ below) None =
    smallest_below aim.battle (chess aim.goal rule) f.left (position rule p (f ∷ below))
    (untried_moves rule (position rule p (f ∷ below)) f)
    + to_try_with rule aim p below
    (joined_value aim.battle (chess aim.goal rule) f.left (position rule p (f ∷ below))
    (untried_moves rule (position rule p (f ∷ below)) f))

-- each frame has at least one half-move to make, and one less than the frame below it
unfoldable pub IsDescending : List Frame → Type 0
IsDescending [] = Unit {0}
IsDescending (f ∷ []) = 0 < f.left
IsDescending (f ∷ (g ∷ below)) = (0 < f.left) × (f.left + 1 ≡ g.left) × IsDescending (g ∷ below)

-- each frame's cursor belongs to its own position
unfoldable pub AreCursors : RuleSet → Position → List Frame → Type 0
AreCursors rule p [] = Unit {0}
AreCursors rule p (f ∷ below) = IfSome f.cursor (IsPlaceIn rule (position rule p (f ∷ below)))
    × AreCursors rule p below

-- the board has the position of the top frame of a test
pub record IsTesting (rule : RuleSet) (p : Position) (frames : List Frame) (board : Position) : Type
    0 where
  pub linked : IsLinked rule p frames
  pub cut : IsDescending frames
  pub cursors : AreCursors rule p frames
  pub sound : IsWellFormed board
  pub board_at : board ≡ position rule p frames

-- the move led from position p to the board, and `undo` takes it back
pub record CameBy (rule : RuleSet) (by : Move) (undo : Undo) (board p : Position) : Type 0 where
  pub sound : IsWellFormed p
  pub legal : is_legal rule p by ≡ true
  pub led : board ≡ position_after rule p by
  pub undone : undo ≡ undo_of rule p by

-- the frame's move led from position p to the board
abbrev pub CameFromAt : RuleSet → Frame → Position → Position → Type 0
CameFromAt rule f board p = CameBy rule f.by f.undo board p

-- the frame's move led from some position to the board
abbrev pub CameFrom : RuleSet → Frame → Position → Type 0
CameFrom rule f board = (p : Position) × CameFromAt rule f board p

-- the frames from the floor up, listed from the top down
unfoldable pub tests : ℕ → List Frame → List Frame
tests floor frames = reverse (drop floor frames)

-- what one turn of a test leaves: another state, which will yield the same value
pub record Turns (rule : RuleSet) (aim : Aim) (floor : ℕ) (p : Position) (old new : List Frame)
    (was is : Option Bool) (board : Position) (before after : ℕ) : Type 0 where
  pub testing : IsTesting rule p (tests floor new) board
  pub same : pending_value rule aim p (tests floor old) was
      ≡ pending_value rule aim p (tests floor new) is
  pub falls : test_work rule p (tests floor new) < test_work rule p (tests floor old)
  pub above : floor < length new
  pub base : take floor new ≡ take floor old
  pub counted : after + to_test rule p (tests floor new) ≤ before + to_test rule p (tests floor old)
  pub tried : min (before + to_try rule aim p (tests floor old) was) (2 ^ 64 - 1)
      ≤ after + to_try rule aim p (tests floor new) is

-- what the last turn of a test leaves: its value, with board and frames as before the test; the count grew
-- by at most what its moves allow, and by at least the positions of a smallest tree
pub record Ends (rule : RuleSet) (aim : Aim) (floor : ℕ) (p : Position) (old new : List Frame)
    (was : Option Bool) (board : Position) (before after : ℕ) (v : Bool) : Type 0 where
  pub value : pending_value rule aim p (tests floor old) was ≡ v
  pub back : board ≡ p
  pub base : new ≡ take floor old
  pub counted : after ≤ before + to_test rule p (tests floor old)
  pub tried : min (before + to_try rule aim p (tests floor old) was) (2 ^ 64 - 1) ≤ after

-- the frame of a position that a move has reached, of which no move has been tried
abbrev pub opened_frame : Move → Undo → ℕ → Frame
opened_frame by undo left = record {
  place = 0;
  by = by;
  undo = undo;
  left = left;
  order = unordered;
  move_stage = Others;
  cursor = None;
  line_ends = None;
}

-- the frame of a position that a move of a test has reached: its killer is tried first
abbrev pub tested_frame : Order → Move → Undo → ℕ → Option LegalPlace → Frame
tested_frame order by undo left cursor = record {
  place = order.killer - 1;
  by = by;
  undo = undo;
  left = left;
  order = order;
  move_stage = Killer;
  cursor = cursor;
  line_ends = None;
}

-- one frame of a test was added, whose cursor belongs to its own position
pub record IsOpenedOn (rule : RuleSet) (p : Position) (old new : List Frame) (by : Move)
    (undo : Undo) (left : ℕ) : Type 0 where
  pub order : Order
  pub cursor : Option LegalPlace
  pub within : IfSome cursor (IsPlaceIn rule p)
  pub added : new ≡ old ++ tested_frame order by undo left cursor ∷ []

-- the half-moves left at the top frame
abbrev pub left_at_top : List Frame → ℕ
left_at_top [] = 0
left_at_top (f ∷ below) = f.left
