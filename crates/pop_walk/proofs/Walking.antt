-- The outcomes of a step, with frames listed from the bottom up, as the code holds them, and what its calls
-- return.
use Rattle.pop_walk.proofs.Words.{None, Some, all_triples, AreCursors, Bool, CameFrom, CameFromAt, Frame, GoesTo, IfSome, IsNextMate, IsNextOf, IsPlaceIn, IsRoomy, IsWalking, LegalPlace, List, MatchOption, Mate, Option, Mode, Position, RuleSet, [], ap, append-nil, arith, chess, eqb, false, is_followed, is_emitted, walk_length, inl, inr, is_legal, length, length-append, length-reverse, get_or, take, mates_after, nat_tests, moves_after, met_after-end, position, refl, reverse, reverse-append, rules, seeks_last, subst, suc, sym, true, undo_of, ℕ, ◌++◌, ◌+◌, ◌-◌, ◌<◌, ◌∙◌, ◌∷◌, ◌≡◌, ◌≤◌, ◌⊎◌, Move, position_after, opened_frame, nil_from_length, mates_after-are}
use Rattle.std.proofs.lemmas.List.{same_from_push, take_all, take_more}
use Rattle.pop_battle.specs.ties.Frames.{learned, moved}
use Rattle.chess_reach.specs.Lines.{HoldsEnds}
use Rattle.pop_walk.specs.ties.Walk.{AreEndsAfter, KeepsEnds, MovesOn}
use Rattle.pop_walk.proofs.GoingOn.{cases, follows-help, walk_length-help}
unfoldable use Rattle.pop_walk.specs.ties.Walk.{AreEnds}
use Rattle.pop_battle.specs.declared.frame.LineEnds.{LineEnds}
use Rattle.pop_walk.proofs.Outcomes.{CameFrom-deep, walking-close, Stepped, walking-learned, steps-ended, steps-learned, skips-close, steps-leave, steps-unfollowed, steps-enter, steps-skip, walking-moved}
use Rattle.pop_walk.specs.ties.Counts.{CountsMove}
use Rattle.pop_walk.proofs.StepsLeft.{onward}

-- a push, and the frames before a frame was taken off, seen from the top
pub reverse-push : (xs : List Frame) (x : Frame) → reverse (xs ++ x ∷ []) ≡ x ∷ reverse xs
reverse-push xs x = reverse-append xs (x ∷ [])

-- the top frame is the last one of the code's list
pub popped : (old new : List Frame) (x : Frame) → old ≡ new ++ x ∷ [] → reverse old ≡ x ∷ reverse new
popped old new x e = ap reverse e ∙ reverse-push new x

-- the last frame on all others
pub last_on_top : (frames : List Frame) (x : Frame) → x ≡ get_or frames (length frames - 1) x → 0 < length frames
    → frames ≡ take (length frames - 1) frames ++ x ∷ []
last_on_top frames x at some =
    let n = length frames - 1 in
    let long : length frames ≡ n + 1 = omega (arith, some) in
    sym (take_all (n + 1) frames (omega (arith, long))) ∙ take_more frames n x (omega (arith, some)) ∙ ap (λ y. take n frames ++ y ∷ []) (sym at)

-- the depth of the frames below it
pub below_top : (old new : List Frame) (x : Frame) → old ≡ new ++ x ∷ [] → length old ≡ length new + 1
below_top old new x e = rw e (length-append new (x ∷ []))

pub depth_below : (old new : List Frame) (x : Frame) (n : ℕ) → old ≡ new ++ x ∷ [] → n ≡ length old → n - 1 ≡ length new
depth_below old new x n e all = omega (arith, all, below_top old new x e)

-- the frames of the first position's moves
pub at_root : (n depth : ℕ) → n ≡ depth + 1 → eqb n 1 ≡ eqb depth 0
at_root n depth e = grind (arith, nat_tests)

-- outcomes for frames listed from the bottom up, as the code holds them
module _ (rule : RuleSet) (mode : Mode) (h : ℕ) (top : Frame) (old new : List Frame) (taken : old ≡ new ++ top ∷ []) where
  depth_is : length (reverse new) ≡ length new
  depth_is = length-reverse new

  walking_top : (p board now : Position) → IsWalking rule h p (reverse old) board → now ≡ board → IsWalking rule h p (top ∷ reverse new) now
  walking_top p board now r e = search (rules, popped)

  -- a step that closes the top frame
  pub close_steps : (full : Bool) (board now after : Position) (depth opened count : ℕ) → now ≡ board → depth ≡ length new
      → ((top.left ≡ 0) × (count ≡ opened)) ⊎ GoesTo rule mode top.left board top.place [] opened count → (depth ≡ 0 → after ≡ now)
      → ((q : Position) → 0 < depth → CameFromAt rule top now q → after ≡ q) → (p : Position) → IsWalking rule h p (reverse old) board
      → Stepped full rule mode h p (reverse old) (reverse new) after opened count false
  close_steps full board now after depth opened count e d none lowest before p r =
      let r2 = walking_top p board now r e in
      rw (popped old new top taken)
      (search (rules, skips-close full rule mode h p top (reverse new) now r2 after opened count (rw (← e, r2.board_at) at none), depth_is))

  -- there is room for its half-moves
  pub room_left : (p board : Position) → IsWalking rule h p (reverse old) board → top.left + length new ≤ h
  unfolding IsRoomy
  room_left p board r = omega (arith, (walking_top p board board r refl).roomy.0, depth_is)

  pub room_with_it : (p board : Position) → IsWalking rule h p (reverse old) board → top.left + length old ≤ h + 1
  room_with_it p board r = omega (arith, room_left p board r, below_top old new top taken)

  -- what it knows is of the board's position
  pub top_cursor : (p board : Position) → IsWalking rule h p (reverse old) board → IfSome top.cursor (IsPlaceIn rule board)
  unfolding AreCursors
  top_cursor p board r = let s = walking_top p board board r refl in rw s.board_at s.cursors.0

  -- what it knows of lines holds of the board's position
  pub top_ends : (p board now : Position) (k : ℕ) → IsWalking rule h p (reverse old) board → now ≡ board → 0 < top.left → k ≡ top.left - 1
      → IfSome top.line_ends (λ e. HoldsEnds e.goal rule (k + 1) now e.squares)
  unfolding AreEnds
  top_ends p board now k r same some less =
      let s = walking_top p board now r same in
      let more : k + 1 ≡ top.left = omega (arith, some, less) in
      rw (more, s.board_at) s.ends.0

  module _ (place : ℕ) (cursor : Option LegalPlace) (m : Move) (board now : Position) (depth : ℕ) (mid : List Frame) (opened between : ℕ)
      (at : now ≡ board) (d : depth ≡ length new) (some : (0 < top.left)
      × GoesTo rule mode top.left board top.place (m ∷ moves_after rule board place) opened between × (is_legal rule board m ≡ true))
      (within : IfSome cursor (IsPlaceIn rule board)) (put : mid ≡ new ++ moved (learned top cursor) place ∷ []) where
    abbrev following : ℕ
    following = top.left - 1

    abbrev arrived : Position
    arrived = position_after rule now m

    skips : (g : GoesTo rule mode top.left board top.place (m ∷ moves_after rule board place) opened between) × (top.place ≤ g.mid)
    skips = onward rule board top.place _ _ some.1

    mid_is : reverse mid ≡ moved (learned top cursor) place ∷ reverse new
    mid_is = popped mid new _ put

    -- a step that plays its next move
    pub enter_steps : (full root given : Bool) (after : Position) (last : List Frame) (opened2 : ℕ) → root ≡ eqb depth 0
        → (is_followed mode.battle (chess mode.goal rule) root following arrived ≡ false → (given ≡ false) × (after ≡ now) × (last ≡ mid))
        → (is_followed mode.battle (chess mode.goal rule) root following arrived ≡ true
        → (given ≡ is_emitted mode.battle (chess mode.goal rule) following arrived) × (after ≡ arrived)
        × (last ≡ mid ++ opened_frame m (undo_of rule now m) (walk_length mode.battle mode.variation (chess mode.goal rule) following arrived) ∷ []))
        → CountsMove rule mode root following arrived between opened2
        → (p : Position) → IsWalking rule h p (reverse old) board → Stepped full rule mode h p (reverse old) (reverse last) after opened opened2 given
    enter_steps full root given after last opened2 flag unfollowed enters counts p r =
        let left : top.left ≡ suc following = omega (arith, some.0) in
        let f = learned top cursor in
        let r2 = walking-learned rule h p top cursor (reverse new) now (walking_top p board now r at) (rw at within) in
        let flag2 : eqb (length (reverse new)) 0 ≡ root = grind (arith, depth_is) in
        let lawful : is_legal rule now m ≡ true = rw at some.2 in
        let o = rw (← at, r2.board_at) at skips in
        let g = o.0 in
        let r3 = walking-moved rule h p f g.mid (reverse new) now now r2 refl in
        let here = subst (λ q. moves_after rule q g.mid ≡ m ∷ moves_after rule q place) (sym r2.board_at) g.here in
        elim (cases (is_followed mode.battle (chess mode.goal rule) root following arrived)) [
          | inl off ↦
              let x = unfollowed off in
              let s = steps-unfollowed full rule mode h p (moved f g.mid) (reverse new) now r3 place m following left here after between opened2
              (rw flag2 off) x.1 (rw flag2 counts) in
              rw (popped old new top taken, x.2, mid_is, x.0) (steps-learned full rule mode h p top cursor (reverse new) _ after opened opened2 false
              (steps-skip full rule mode h p f (reverse new) _ opened between g o.1 _ after opened2 false s))
          | inr entered ↦
              let x = enters entered in
              let s = steps-enter full rule mode h p (moved f g.mid) (reverse new) now r3 place m following left here after between opened2 lawful
              (rw flag2 entered) x.1 (rw flag2 counts) in
              rw (popped old new top taken, x.2, reverse-push mid, mid_is, x.0) (steps-learned full rule mode h p top cursor (reverse new) _ after opened opened2 _
              (steps-skip full rule mode h p f (reverse new) _ opened between g o.1 _ after opened2 _ s))
        ]

    -- a step that leaves its next move
    pub leave_steps : (full : Bool) (after : Position) → full ≡ false → mode.battle ≡ None → HoldsEnds mode.goal rule following arrived 0 → after ≡ now
        → (p : Position) → IsWalking rule h p (reverse old) board → Stepped full rule mode h p (reverse old) (reverse mid) after opened between false
    leave_steps full after part help none stays p r =
        let left : top.left ≡ suc following = omega (arith, some.0) in
        let f = learned top cursor in
        let r2 = walking-learned rule h p top cursor (reverse new) now (walking_top p board now r at) (rw at within) in
        let o = rw (← at, r2.board_at) at skips in
        let g = o.0 in
        let r3 = walking-moved rule h p f g.mid (reverse new) now now r2 refl in
        let here = subst (λ q. moves_after rule q g.mid ≡ m ∷ moves_after rule q place) (sym r2.board_at) g.here in
        let s = steps-leave full rule mode h p (moved f g.mid) (reverse new) now r3 place m following left here after between part help none stays in
        rw (popped old new top taken, mid_is) (steps-learned full rule mode h p top cursor (reverse new) _ after opened between false
        (steps-skip full rule mode h p f (reverse new) _ opened between g o.1 _ after between false s))

    -- what is known of the lines from the position that was entered is kept there
    pub kept_steps : (full root given : Bool) (after : Position) (last kept : List Frame) (opened2 : ℕ) (prunes : Bool) (ends : Option LineEnds)
        → IfSome ends (λ e. (prunes ≡ true) × AreEndsAfter rule mode following arrived e) → KeepsEnds ends last kept
        → (is_followed mode.battle (chess mode.goal rule) root following arrived ≡ true
        → (given ≡ is_emitted mode.battle (chess mode.goal rule) following arrived) × (after ≡ arrived)
        × (last ≡ mid ++ opened_frame m (undo_of rule now m) (walk_length mode.battle mode.variation (chess mode.goal rule) following arrived) ∷ []))
        → (p : Position) → Stepped full rule mode h p (reverse old) (reverse last) after opened opened2 given
        → Stepped full rule mode h p (reverse old) (reverse kept) after opened opened2 given
    kept_steps full root given after last kept opened2 prunes None ends k enters p taken = rw k taken
    kept_steps full root given after last kept opened2 prunes (Some e) ends k enters p taken =
        let help = ends.1.help in
        let x = enters (follows-help mode (chess mode.goal rule) root following arrived help) in
        let t = rw (x.2, reverse-push mid) at taken in
        let f = opened_frame m (undo_of rule now m) (walk_length mode.battle mode.variation (chess mode.goal rule) following arrived) in
        let held : HoldsEnds e.goal rule f.left after e.squares =
        rw (ends.1.same, walk_length-help mode (chess mode.goal rule) following arrived help, x.1) ends.1.ends in
        rw (k mid f x.2, reverse-push mid) (steps-ended full rule mode h p (reverse old) f (reverse mid) e after opened opened2 given held t)

-- the next mate is the next move where play ends with it
pub next_mating : (rule : RuleSet) (mode : Mode) (left : ℕ) (p : Position) (place next before after : ℕ) (o : Option Move) → mode.goal ≡ Mate
    → seeks_last mode.battle ≡ true → left ≡ 1 → after ≡ before
    → MatchOption o (mates_after rule p place ≡ []) (λ m. mates_after rule p place ≡ m ∷ mates_after rule p next)
    → IfSome o (IsNextMate rule p place next) → IfSome o (λ m. is_legal rule p m ≡ true) → IsNextOf rule mode left p place next before after o
next_mating rule mode left p place next before after o for last single e rest mates legal =
    grind (arith, mates_after-are rule p place, met_after-end (is_legal rule p) all_triples (omega arith), append-nil)

-- a frame is closed, whatever is walked
module _ (rule : RuleSet) (h : ℕ) (top : Frame) (old new : List Frame) (taken : old ≡ new ++ top ∷ []) where
  -- what closing a frame asks for
  pub back_asks : (p board : Position) (depth : ℕ) → IsWalking rule h p (reverse old) board → depth ≡ length new → 0 < depth → CameFrom rule top board
  back_asks p board depth r d deep = CameFrom-deep rule h p top (reverse new) board (grind (arith, popped)) (omega (arith, length-reverse new, d, deep))

  -- once the top frame is closed, the walk is on the frames below
  pub back_walking : (p board after : Position) (depth : ℕ) → IsWalking rule h p (reverse old) board → depth ≡ length new → (depth ≡ 0 → after ≡ board)
      → ((q : Position) → 0 < depth → CameFromAt rule top board q → after ≡ q) → IsWalking rule h p (reverse new) after
  back_walking p board after depth r d lowest before =
      let r2 = rw (popped old new top taken) at r in search (rules, walking-close rule h p top (reverse new) board after r2, length-reverse)

-- with no frame left the board has the first position
pub walking_back : (rule : RuleSet) (h : ℕ) (p board : Position) (frames : List Frame) → IsWalking rule h p (reverse frames) board → length frames ≡ 0
    → board ≡ p
unfolding position
walking_back rule h p board frames r none = grind (arith, nil_from_length, length-reverse)

-- the top frame that has moved on is taken off
pub popped_off : (rule : RuleSet) (mode : Mode) (board : Position) (old mid new : List Frame) (before after : ℕ) (o : Option Move) (x : Frame)
    → (on : MovesOn rule mode board old mid before after o) → mid ≡ new ++ x ∷ []
    → (old ≡ new ++ on.top ∷ []) × (x ≡ moved (learned on.top on.cursor) on.place)
popped_off rule mode board old mid new before after o x on e =
    let same = same_from_push on.below new _ x (sym on.stands ∙ e) in (rw same.0 at on.stood, sym same.1)

-- the top frame has the same half-moves left and line ends after it has moved on
pub top_is : (rule : RuleSet) (mode : Mode) (board : Position) (old mid below : List Frame) (before after : ℕ) (o : Option Move)
    → (on : MovesOn rule mode board old mid before after o) (x : Frame) → mid ≡ below ++ x ∷ []
    → (x.left ≡ on.top.left) × (x.line_ends ≡ on.top.line_ends)
top_is rule mode board old mid below before after o on x e =
    let same = (same_from_push below on.below x _ (sym e ∙ on.stands)).1 in
    (ap (λ (f : Frame). f.left) same, ap (λ (f : Frame). f.line_ends) same)

-- for `step`: what holds of the frame taken off
pub ruleset top_frame = (top_cursor, room_left)
