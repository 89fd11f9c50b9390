-- The walk over first moves: what a step leaves of the lists still to come.
unfoldable use Rattle.pop_walk.specs.ties.Walk.{AreEnds}
use Rattle.pop_parts.proofs.Words.{AreCursors, CameFrom, CameFromAt, Frame, IfSome, IsLinked, IsPlaceIn, IsRoomy, IsWalking, IsWellFormed, LegalPlace, List, Move, None, Option, Position, RuleSet, Some, Undo, [], after_well_formed, ap, append-nil, append_assoc, arith, beginnings, chess, drop, is_legal, may_be_made, is_some, length, length-append, length-reverse, map, map-append, map-id, min, moves_after, nil_from_length, path, position, position_after, refl, reverse, rules, slice_get, suc, sym, true, undo_of, walk_work, zero, ℕ, ◌++◌, ◌+◌, ◌-◌, ◌<◌, ◌^◌, ◌∙◌, ◌∷◌, ◌≡◌, ◌≢◌, ◌≤◌}
use Rattle.std.proofs.Math.Seq.{drop-nil}
use Rattle.pop_stipulation.specs.declared.stipulation.Goal.{Goal}
use Rattle.pop_battle.proofs.Boards.{after_start}
use Rattle.pop_walk.proofs.Outcomes.{CameFrom-deep, walking-close, walking-learned, walking-moved}
use Rattle.pop_battle.specs.ties.Frames.{learned, moved, opened_frame}
use Rattle.pop_walk.proofs.Walking.{popped}
use Rattle.pop_walk.proofs.StepsLeft.{turns-enter, turns-unfollowed}
use Rattle.pop_walk.proofs.ToCome.{map-path}
use Rattle.pop_parts.specs.ties.Beginnings.{FindsNumbered, IsSeeking, Seeks, beginnings_by, beginnings_to_come}
use Rattle.pop_walk.specs.ties.Beginnings.{are_idle}

deeper : (L : List Move) (m : Move) (xs ys rest : List (List Move))
    → map (λ line. L ++ line) (map (λ line. m ∷ line) xs ++ ys) ++ rest ≡ map (λ line. (L ++ m ∷ []) ++ line) xs ++ (map (λ line. L ++ line) ys ++ rest)
deeper L m xs ys rest = search (rules, map-append, map-path, append_assoc)

beginnings-more : (goal : Goal) (rule : RuleSet) (k : ℕ) (q : Position)
    → beginnings (chess goal rule) (suc k) q ≡ beginnings_by goal rule k q (moves_after rule q 0)
unfolding beginnings beginnings_by
beginnings-more goal rule k q = rw (after_start rule q) refl

module _ (goal : Goal) (rule : RuleSet) (d : ℕ) (p : Position) (f : Frame) (next : ℕ) (m : Move) (below : List Frame)
    (e : moves_after rule (position rule p (f ∷ below)) f.place ≡ m ∷ moves_after rule (position rule p (f ∷ below)) next) where
  -- the last move of a beginning
  come-found : length below + 1 ≡ d
      → beginnings_to_come goal rule d p (f ∷ below) ≡ (path (moved f next ∷ below) ++ m ∷ []) ∷ beginnings_to_come goal rule d p (moved f next ∷ below)
  unfolding beginnings_to_come position path beginnings beginnings_by
  come-found last = search rules

  -- another one
  come-deeper : (undo : Undo) → length below + 1 < d
      → beginnings_to_come goal rule d p (f ∷ below) ≡ beginnings_to_come goal rule d p (opened_frame m undo 0 ∷ (moved f next ∷ below))
  unfolding beginnings_to_come position path beginnings beginnings_by
  come-deeper undo less =
      let k : d - length below - 1 ≡ suc (d - suc (length below) - 1) = omega (arith, less) in
      simp (k, e, after_start) (search (rules, deeper))

come-closed : (goal : Goal) (rule : RuleSet) (d : ℕ) (p : Position) (f : Frame) (below : List Frame)
    → moves_after rule (position rule p (f ∷ below)) f.place ≡ [] → beginnings_to_come goal rule d p (f ∷ below) ≡ beginnings_to_come goal rule d p below
unfolding beginnings_to_come beginnings_by
come-closed goal rule d p f below e = rw e refl

walking-idle : (rule : RuleSet) (h : ℕ) (p : Position) (f : Frame) (next : ℕ) (m : Move) (below : List Frame) (board after : Position)
    → IsWalking rule h p (f ∷ below) board → length below + 1 ≤ h → is_legal rule board m ≡ true → after ≡ position_after rule board m
    → IsWalking rule h p (opened_frame m (undo_of rule board m) 0 ∷ (moved f next ∷ below)) after
unfolding IsLinked IsRoomy AreCursors AreEnds position
walking-idle rule h p f next m below board after r less lawful e =
    let pseudo = may_be_made rule board m lawful in grind (arith, after_well_formed rule board m r.sound pseudo, pseudo)

-- the outcomes of a step, for frames listed from the bottom up, as the code holds them
module _ (rule : RuleSet) (h d : ℕ) (p : Position) (top : Frame) (old new : List Frame) (taken : old ≡ new ++ top ∷ []) (board : Position)
    (s : IsSeeking rule h d p (reverse old) board) where
  at_top : reverse old ≡ top ∷ reverse new
  at_top = popped old new top taken

  on_top : IsWalking rule h p (top ∷ reverse new) board
  on_top = rw at_top at s.walking

  -- what the top frame knows is of the board's position
  pub top-cursor : IfSome top.cursor (IsPlaceIn rule board)
  unfolding AreCursors
  top-cursor = rw on_top.board_at on_top.cursors.0

  -- what taking its move back asks for
  pub back-calls_source : (now : Position) (depth : ℕ) → now ≡ board → depth ≡ length new → 0 < depth → CameFrom rule top now
  back-calls_source now depth e at some = rw e (CameFrom-deep rule h p top (reverse new) board on_top (omega (arith, at, length-reverse new, some)))

  idle_top : are_idle (top ∷ reverse new) ≡ true
  idle_top = sym (ap are_idle at_top) ∙ s.idle

  deep : length (reverse new) + 1 ≤ d
  deep = omega (arith, s.within, ap length at_top)

  -- a frame without moves is closed
  pub seeks-closed : (now after : Position) (depth : ℕ) → now ≡ board → depth ≡ length new → moves_after rule board top.place ≡ []
      → (depth ≡ 0 → after ≡ now) → ((q : Position) → 0 < depth → CameFromAt rule top now q → after ≡ q)
      → Seeks rule h d p (reverse old) (reverse new) after None
  unfolding are_idle walk_work
  seeks-closed now after depth e at none lowest before =
      let walking = walking-close rule h p top (reverse new) board after on_top in
      rw at_top (search (rules, walking, idle_top, deep, come-closed, on_top.board_at, length-reverse))

  module _ (cursor : Option LegalPlace) (place : ℕ) (m : Move) (now : Position) (mid : List Frame) (e : now ≡ board)
      (within : IfSome cursor (IsPlaceIn rule board))
      (next : (moves_after rule board top.place ≡ m ∷ moves_after rule board place) × (is_legal rule board m ≡ true))
      (put : mid ≡ new ++ moved (learned top cursor) place ∷ []) where
    abbrev f : Frame
    f = learned top cursor

    top_listed : IsWalking rule h p (f ∷ reverse new) board
    top_listed = walking-learned rule h p top cursor (reverse new) board on_top within

    at_mid : reverse mid ≡ moved f place ∷ reverse new
    at_mid = popped mid new _ put

    following : moves_after rule (position rule p (f ∷ reverse new)) f.place ≡ m ∷ moves_after rule (position rule p (f ∷ reverse new)) place
    following = rw (← top_listed.board_at) next.0

    -- the next move ends a beginning
    pub seeks-found : length mid ≡ d → Seeks rule h d p (reverse old) (reverse mid) now (Some m)
    unfolding are_idle walk_work position beginnings_to_come path
    seeks-found last =
        let at : length (reverse new) + 1 ≡ d = omega (arith, last, length-reverse new, ap length put ∙ length-append new (moved f place ∷ [])) in
        let walking = walking-moved rule h p f place (reverse new) board board top_listed in
        let found = λ (goal : Goal). come-found goal rule d p f place m (reverse new) following at in
        let fuel : d - length (reverse new) ≡ suc (d - length (reverse new) - 1) = omega (arith, at) in
        let falls = turns-unfollowed rule d _ f (reverse new) place m _ fuel following in
        rw (at_top, at_mid, e) (search (rules, walking, idle_top, deep, s.room, found, at, falls, following))

    -- the next move leads on to a deeper frame
    pub seeks-deeper : (undo : Undo) (after : Position) (last : List Frame) → length mid ≢ d → undo ≡ undo_of rule now m
        → after ≡ position_after rule now m
        → last ≡ mid ++ opened_frame m undo 0 ∷ [] → Seeks rule h d p (reverse old) (reverse last) after None
    unfolding are_idle walk_work position beginnings_to_come path
    seeks-deeper undo after last other u a pushed =
        let size = ap length put ∙ length-append new (moved f place ∷ []) in
        let less : length (reverse new) + 1 < d = grind (arith, deep, other, length-reverse new, size) in
        let at_last = popped last mid _ pushed in
        let u2 : undo ≡ undo_of rule board m = rw e at u in
        let walking = walking-idle rule h p f place m (reverse new) board after top_listed in
        let found = λ (goal : Goal). come-deeper goal rule d p f place m (reverse new) following undo less in
        let fuel : d - length (reverse new) ≡ suc (d - length (reverse new) - 1) = omega (arith, less) in
        let falls = turns-enter rule d _ f (reverse new) place m _ fuel following undo 0 in
        rw (at_top, at_last, at_mid) (search (rules, u2, walking, idle_top, deep, s.room, found, falls, following, next.1, e))

-- steps on the way to the beginning with a number
pub record SeeksNumbered (rule : RuleSet) (h d : ℕ) (p : Position) (old new : List Frame) (board : Position) (number left : ℕ) : Type 0 where
  pub seeking : IsSeeking rule h d p new board
  pub some : 1 ≤ left
  pub same : (goal : Goal) → slice_get (beginnings_to_come goal rule d p old) (number - 1) ≡ slice_get (beginnings_to_come goal rule d p new) (left - 1)
  pub following : (goal : Goal) → drop number (beginnings_to_come goal rule d p old) ≡ drop left (beginnings_to_come goal rule d p new)

-- steps on the way to the last beginning, where `count` were found
pub record CountsOn (rule : RuleSet) (h d : ℕ) (p : Position) (old new : List Frame) (board : Position) (count : ℕ) : Type 0 where
  pub seeking : IsSeeking rule h d p new board
  pub fewer : (goal : Goal) → length (beginnings_to_come goal rule d p new) ≤ length (beginnings_to_come goal rule d p old)
  pub counts : (goal : Goal) → count
      ≡ min (length (beginnings_to_come goal rule d p old) - length (beginnings_to_come goal rule d p new)) (2 ^ 64 - 1)

module _ (rule : RuleSet) (h d : ℕ) (p : Position) where
  module _ (old mid new : List Frame) (board after : Position) where
    -- one that finds a beginning before it counts down
    pub numbered-next : (number left next : ℕ) (o : Option Move) → is_some o ≡ true → next + 1 ≡ left → left ≢ 1
        → SeeksNumbered rule h d p old mid board number left → Seeks rule h d p mid new after o → SeeksNumbered rule h d p old new after number next
    numbered-next number left next None some e other s x = absurd cc
    numbered-next number left zero (Some m) some e other s x = absurd (other (omega (arith, e)))
    numbered-next number left (suc k) (Some m) some e other s x =
        let l : left - 1 ≡ suc k = omega (arith, e) in
        let k1 : suc k - 1 ≡ k = omega arith in
        let whole : left ≡ suc (suc k) = omega (arith, e) in
        record {
          seeking = x.seeking;
          some = omega arith;
          same = λ goal. s.same goal ∙ rw (l, x.come goal, k1) refl;
          following = λ goal. s.following goal ∙ rw (whole, x.come goal) refl;
        }

  -- with no frame left there is no list of first moves
  pub numbered-none : (old mid : List Frame) (board : Position) (number left : ℕ) → mid ≡ [] → SeeksNumbered rule h d p old mid board number left
      → FindsNumbered rule h d p old mid board number None
  unfolding beginnings_to_come
  numbered-none old mid board number left e s = search (rules, drop-nil)

-- no frames from either end
pub no-frames : (frames : List Frame) → length frames ≡ 0 → reverse frames ≡ []
no-frames frames e = search (rules, nil_from_length)

-- before all beginnings
module _ (rule : RuleSet) (p : Position) (f : Frame) (left : f.left ≡ 0) where
  -- the walk over first moves begins at the root of the phase
  pub seeking-begun : (h d : ℕ) (board : Position) → f.cursor ≡ None → f.line_ends ≡ None → 1 ≤ d → d ≤ h → board ≡ p → IsWellFormed board → IsSeeking rule h d p (f ∷ []) board
  unfolding IsLinked IsRoomy AreCursors AreEnds position are_idle
  seeking-begun h d board unknown no_ends some room e sound = search rules

  -- all beginnings are to come from there
  pub come-begun : (goal : Goal) (d : ℕ) → f.place ≡ 0 → 1 ≤ d → beginnings_to_come goal rule d p (f ∷ []) ≡ beginnings (chess goal rule) d p
  unfolding beginnings_to_come position path
  come-begun goal zero at some = absurd (omega (arith, some))
  come-begun goal (suc k) at some =
      let less : suc k - 0 - 1 ≡ k = omega arith in
      rw (at, less, beginnings-more goal rule k p) (search (rules, map-id, append-nil))
