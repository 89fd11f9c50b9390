-- The outcomes of a step, with frames listed from the top down.
use Rattle.pop_walk.proofs.Words.{AreCursors, Bool, CameFrom, CameFromAt, Frame, GoesTo, IfSome, IsLinked, IsPlaceIn, IsRoomy, IsWalking, LegalPlace, List, Move, None, Option, Mode, Position, RuleSet, Steps, [], after_well_formed, ap, arith, chess, eqb, false, shown_paths, is_followed, is_emitted, walk_length, inl, inr, is_legal, may_be_made, length, moves_after, opened_frame, path, position, refl, rules, suc, to_come, to_open, true, walk_work, undo_of, ℕ, ◌-◌, ◌<◌, ◌∷◌, ◌≡◌, ◌≤◌, ◌⊎◌, position_after}
use Rattle.pop_battle.specs.ties.Frames.{learned, moved}
use Rattle.pop_battle.proofs.Tests.{came_from}
use Rattle.pop_walk.proofs.GoingOn.{ended-reached, walk_length-most, ways}
use Rattle.pop_walk.proofs.Counting.{counts-if, counts_then-both}
use Rattle.pop_walk.proofs.StepsLeft.{onward, turns-enter, turns-unfollowed}
use Rattle.pop_walk.proofs.TopFrame.{come-enter, come-leave, come-unfollowed, counts-close, counts-enter, counts-leave, counts-unfollowed, counts-skip, walk-skip}
unfoldable use Rattle.pop_walk.specs.ties.Walk.{AreEnds}
use Rattle.pop_walk.specs.ties.Walk.{ending}
use Rattle.chess_reach.specs.Lines.{HoldsEnds}
use Rattle.pop_battle.specs.declared.frame.LineEnds.{LineEnds}
use Rattle.pop_walk.specs.ties.Counts.{CountsMove, CountsWalk, are_whites, fewest_left, is_walked_once_by, untried}

-- a step, and what it counts
abbrev pub Stepped : Bool → RuleSet → Mode → ℕ → Position → (old new : List Frame) → Position → (before after : ℕ) → Bool → Type 0
Stepped full rule mode h p old new board before after given = Steps rule mode h p old new board given × CountsWalk full rule mode h p old new before after

-- what undoes the top frame
module _ (rule : RuleSet) (h : ℕ) (p : Position) where
  -- a frame above the lowest came from a position
  pub CameFrom-deep : (f : Frame) (below : List Frame) (board : Position) → IsWalking rule h p (f ∷ below) board → 0 < length below → CameFrom rule f board
  CameFrom-deep f below board r deep = (position rule p below, came_from rule p f below board r.linked r.board_at deep)

  -- the walk goes on once the top frame is closed
  pub walking-close : (f : Frame) (below : List Frame) (board after : Position) → IsWalking rule h p (f ∷ below) board → (length below ≡ 0 → after ≡ board)
      → ((q : Position) → 0 < length below → CameFromAt rule f board q → after ≡ q) → IsWalking rule h p below after
  unfolding IsLinked IsRoomy AreCursors AreEnds position
  walking-close f below board after r lowest before = search (rules, came_from)

  -- the top frame learns something of its position
  pub walking-learned : (f : Frame) (cursor : Option LegalPlace) (below : List Frame) (board : Position) → IsWalking rule h p (f ∷ below) board
      → IfSome cursor (IsPlaceIn rule board) → IsWalking rule h p (learned f cursor ∷ below) board
  unfolding IsLinked IsRoomy AreCursors AreEnds position
  walking-learned f cursor below board r w = search rules

  -- the walk stays where it is once the top frame's place has moved on
  pub walking-moved : (f : Frame) (next : ℕ) (below : List Frame) (board after : Position) → IsWalking rule h p (f ∷ below) board → after ≡ board
      → IsWalking rule h p (moved f next ∷ below) after
  unfolding IsRoomy IsLinked AreCursors AreEnds position
  walking-moved f next below board after r e = search rules

-- the outcomes of a step, for frames listed from the top down
module _ (full : Bool) (rule : RuleSet) (mode : Mode) (h : ℕ) (p : Position) (f : Frame) (below : List Frame) (board : Position)
    (r : IsWalking rule h p (f ∷ below) board) where
  steps-close : (after : Position) (count : ℕ) → (f.left ≡ 0) ⊎ (moves_after rule board f.place ≡ []) → (length below ≡ 0 → after ≡ board)
      → ((q : Position) → 0 < length below → CameFromAt rule f board q → after ≡ q) → Stepped full rule mode h p (f ∷ below) below after count count false
  unfolding to_come shown_paths walk_work
  steps-close after count e lowest before =
      (search (rules, walking-close rule h p f below board after r lowest before), counts-if full _ _ _ _ (counts-close rule mode h p f below (rw r.board_at at e) count))

  module _ (next : ℕ) (m : Move) (t : ℕ) (left : f.left ≡ suc t) (e : moves_after rule board f.place ≡ m ∷ moves_after rule board next) where
    here : moves_after rule (position rule p (f ∷ below)) f.place ≡ m ∷ moves_after rule (position rule p (f ∷ below)) next
    here = rw (← r.board_at) e

    after_here : position_after rule board m ≡ position_after rule (position rule p (f ∷ below)) m
    after_here = ap (λ b. position_after rule b m) r.board_at

    fuel : h - length below ≡ suc (h - length below - 1)
    unfolding IsRoomy
    fuel = omega (arith, r.roomy.0, left)

    -- the top frame's next move isn't followed
    pub steps-unfollowed : (after : Position) (opened opened2 : ℕ)
        → is_followed mode.battle (chess mode.goal rule) (eqb (length below) 0) t (position_after rule board m) ≡ false → after ≡ board
        → CountsMove rule mode (eqb (length below) 0) t (position_after rule board m) opened opened2
        → Stepped full rule mode h p (f ∷ below) (moved f next ∷ below) after opened opened2 false
    steps-unfollowed after opened opened2 b at x =
        let walking = walking-moved rule h p f next below board after r at in
        let come = come-unfollowed rule mode h p f below next m _ t fuel left here in
        let falls = turns-unfollowed rule h board f below next m _ fuel e in (
          search (rules, walking, come, falls, after_here),
          counts-if full _ _ _ _
              (counts-unfollowed rule mode h p f below next m _ t fuel left here opened opened2 (rw after_here at b) (rw after_here at x)),
        )

    -- the goal is out of reach after the top frame's next move
    pub steps-leave : (after : Position) (opened : ℕ) → full ≡ false → mode.battle ≡ None
        → HoldsEnds mode.goal rule t (position_after rule board m) 0 → after ≡ board
        → Stepped full rule mode h p (f ∷ below) (moved f next ∷ below) after opened opened false
    steps-leave after opened part help none at =
        let walking = walking-moved rule h p f next below board after r at in
        let come = come-leave rule mode h p f below next m _ t fuel left here help (rw after_here at none) in
        let falls = turns-unfollowed rule h board f below next m _ fuel e in (
          search (rules, walking, come, falls),
          rw part (counts-leave rule mode h p f below next m _ t fuel left here opened help),
        )

    -- the top frame's next move is followed
    pub steps-enter : (after : Position) (opened opened2 : ℕ) → is_legal rule board m ≡ true
        → is_followed mode.battle (chess mode.goal rule) (eqb (length below) 0) t (position_after rule board m) ≡ true → after ≡ position_after rule board m
        → CountsMove rule mode (eqb (length below) 0) t (position_after rule board m) opened opened2
        → Stepped full rule mode h p (f ∷ below) (opened_frame m (undo_of rule board m)
        (walk_length mode.battle mode.variation (chess mode.goal rule) t (position_after rule board m)) ∷ (moved f next ∷
        below)) after opened opened2 (is_emitted mode.battle (chess mode.goal rule) t (position_after rule board m))
    unfolding IsLinked IsRoomy AreCursors AreEnds position
    steps-enter after opened opened2 lawful b at x =
        let u = undo_of rule board m in
        let tried = walk_length mode.battle mode.variation (chess mode.goal rule) t (position_after rule board m) in
        let less = walk_length-most (chess mode.goal rule) mode.battle mode.variation t (position_after rule board m) in
        let pseudo = may_be_made rule board m lawful in (
          record {
            walking = grind (arith, less, after_well_formed rule board m r.sound pseudo, pseudo);
            come = rw after_here (come-enter rule mode h p f below next m _ t fuel left here u (rw (← after_here) b));
            deep = λ g. omega arith;
            ended = λ g e. rw at
                (ended-reached (chess mode.goal rule) mode.battle mode.variation (eqb (length below) 0) t (position_after rule board m) b g e);
            falls = turns-enter rule h board f below next m _ fuel e u tried;
          },
          rw after_here (counts-if full _ _ _ _
              (counts-enter rule mode h p f below next m _ t fuel left here u opened opened2 (rw after_here at b) (rw after_here at x))),
        )

-- what follows moves that are skipped follows from before them
pub steps-skip : (full : Bool) (rule : RuleSet) (mode : Mode) (h : ℕ) (p : Position) (f : Frame) (below : List Frame) (rest : List Move) (before between : ℕ)
    (g : GoesTo rule mode f.left (position rule p (f ∷ below)) f.place rest before between) → f.place ≤ g.mid
    → (new : List Frame) (board : Position) (after : ℕ) (given : Bool)
    → Stepped full rule mode h p (moved f g.mid ∷ below) new board between after given → Stepped full rule mode h p (f ∷ below) new board before after given
steps-skip full rule mode h p f below rest before between g le new board after given s =
    let counts = counts-skip rule mode h p f below rest before between g in
    (walk-skip rule mode h p f below rest before between g le new board given s.0, counts_then-both full _ _ _ _ _ _ (counts-if full _ _ _ _ counts) s.1)

-- a frame is closed once moves that have no paths have been skipped
pub skips-close : (full : Bool) (rule : RuleSet) (mode : Mode) (h : ℕ) (p : Position) (f : Frame) (below : List Frame) (board : Position)
    → IsWalking rule h p (f ∷ below) board → (after : Position) (before count : ℕ)
    → ((f.left ≡ 0) × (count ≡ before)) ⊎ GoesTo rule mode f.left (position rule p (f ∷ below)) f.place [] before count → (length below ≡ 0 → after ≡ board)
    → ((q : Position) → 0 < length below → CameFromAt rule f board q → after ≡ q) → Stepped full rule mode h p (f ∷ below) below after before count false
skips-close full rule mode h p f below board r after before count (inl e) lowest back =
    rw e.1 (steps-close full rule mode h p f below board r after before (inl e.0) lowest back)
skips-close full rule mode h p f below board r after before count (inr g) lowest back =
    let o = onward rule (position rule p (f ∷ below)) f.place [] _ g in
    steps-skip full rule mode h p f below [] before count o.0 o.1 below after count false
    (steps-close full rule mode h p (moved f o.0.mid) below board (walking-moved rule h p f o.0.mid below board board r refl) after count
    (inr (rw r.board_at o.0.here)) lowest back)

-- what the top frame knows changes nothing of what is to come
pub steps-learned : (full : Bool) (rule : RuleSet) (mode : Mode) (h : ℕ) (p : Position) (f : Frame) (cursor : Option LegalPlace) (below new : List Frame)
    (after : Position) (opened opened2 : ℕ) (given : Bool) → Stepped full rule mode h p (learned f cursor ∷ below) new after opened opened2 given
    → Stepped full rule mode h p (f ∷ below) new after opened opened2 given
unfolding to_come path position walk_work to_open untried fewest_left are_whites is_walked_once_by
steps-learned full rule mode h p f cursor below new after opened opened2 given s = search (rules, ways)

-- the frame that a step has added, or the top frame, gets to know where lines from it end
pub steps-ended : (full : Bool) (rule : RuleSet) (mode : Mode) (h : ℕ) (p : Position) (old : List Frame) (f : Frame) (below : List Frame) (e : LineEnds)
    (board : Position) (opened opened2 : ℕ) (given : Bool) → HoldsEnds e.goal rule f.left board e.squares
    → Stepped full rule mode h p old (f ∷ below) board opened opened2 given → Stepped full rule mode h p old (ending f e ∷ below) board opened opened2 given
unfolding IsLinked IsRoomy AreCursors AreEnds to_come path position walk_work to_open untried fewest_left are_whites is_walked_once_by
steps-ended full rule mode h p old f below e board opened opened2 given ends s = search (rules, ways)
