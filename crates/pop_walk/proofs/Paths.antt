-- The path to the top frame, and how it is shown.
use Rattle.pop_walk.proofs.Words.{CameFrom, CameFromAt, Frame, Goal, IsEnded, IsLinked, IsWalking, List, Move, Mode, Position, RuleSet, [], ap, arith, chess, cond, drop, ends_at_goal, get_or, is_legal, left_at_top, length, length-append, length-reverse, length-take, path, path_end, position, refl, reverse, reverse-append, rules, moves_shown, last_shown, shown_move, subst, sym, take, take-append-drop, take_all, take_more, true, ℕ, ◌++◌, ◌+◌, ◌-◌, ◌<◌, ◌∙◌, ◌∷◌, ◌≡◌, ◌≤◌, position_after}
use Rattle.pop_walk.proofs.Outcomes.{CameFrom-deep, walking-close}
use Rattle.pop_battle.specs.declared.chess.Reached.{Reached}
use Rattle.pop_battle.specs.declared.chess.Reached.TheVariants.{Perhaps, Certainly}
use Rattle.pop_walk.proofs.Walking.{popped}

-- a path has one move fewer than frames
pub path-length : (frames : List Frame) → length (path frames) ≡ length frames - 1
unfolding path
path-length [] = omega arith
path-length (f ∷ []) = omega arith
path-length (f ∷ (g ∷ below)) = grind (arith, length-append, path-length (g ∷ below))

-- a move more
pub path-more : (f : Frame) (fs : List Frame) → 0 < length fs → path (f ∷ fs) ≡ path fs ++ f.by ∷ []
unfolding path
path-more f fs some = search rules

-- the frame at k stands above the first k
pub cut-at : (frames : List Frame) (n k : ℕ) (f : Frame) → n ≡ k + 1 → f ≡ get_or frames k f → k < length frames → take n frames ≡ take k frames ++ f ∷ []
cut-at frames n k f e at less = rw e (take_more frames k f less) ∙ ap (λ x. take k frames ++ x ∷ []) (sym at)

-- below it there is a frame
pub some-taken : (frames : List Frame) (k : ℕ) → 0 < k → k ≤ length frames → 0 < length (take k frames)
some-taken frames k some most = omega (arith, length-take k frames, some, most)

-- a frame on top of others
pub record IsTopped (upper lower : List Frame) (f : Frame) : Type 0 where
  pub cut : upper ≡ lower ++ f ∷ []
  pub some : 0 < length lower

-- the frame at k, on the first k
pub topped-at : (frames : List Frame) (n k : ℕ) (f : Frame) → f ≡ get_or frames k f → n ≡ k + 1 → 0 < k → k < length frames
    → IsTopped (take n frames) (take k frames) f
topped-at frames n k f at e some less = record { cut = cut-at frames n k f e at less; some = some-taken frames k some (omega (arith, less)) }

-- the last, on all others
pub topped-last : (frames : List Frame) (f : Frame) → f ≡ get_or frames (length frames - 1) f → 2 ≤ length frames
    → IsTopped frames (take (length frames - 1) frames) f
topped-last frames f at deep = subst (λ fs. IsTopped fs (take (length frames - 1) frames) f) (take_all (length frames) frames (omega arith))
    (topped-at frames (length frames) (length frames - 1) f at (omega arith) (omega arith) (omega arith))

-- the half-moves left at the last
pub left_last : (frames : List Frame) (k : ℕ) (f : Frame) → f ≡ get_or frames k f → k + 1 ≡ length frames → left_at_top (reverse frames) ≡ f.left
left_last frames k f at last = ap left_at_top (popped frames (take k frames) f
    (sym (take_all (k + 1) frames (omega (arith, last))) ∙ cut-at frames (k + 1) k f refl at (omega (arith, last))))

module _ (goal : Goal) (rule : RuleSet) where
  -- one more move leads on from the end of a path
  pub path_end-append : (p : Position) (xs : List Move) (m : Move) → path_end (position_after rule) p (xs ++ m ∷ [])
      ≡ position_after rule (path_end (position_after rule) p xs) m
  path_end-append p [] m = refl
  path_end-append p (x ∷ xs) m = path_end-append (position_after rule p x) xs m

  along-append : (p : Position) (xs : List Move) (m : Move)
      → moves_shown goal rule p (xs ++ m ∷ []) ≡ moves_shown goal rule p xs ++ shown_move goal rule (path_end (position_after rule) p xs) m ∷ []
  along-append p [] m = refl
  along-append p (x ∷ xs) m = ap (λ ys. shown_move goal rule p x ∷ ys) (along-append (position_after rule p x) xs m)

  last-append : (p : Position) (xs : List Move) (m : Move) → last_shown goal rule p (xs ++ m ∷ [])
      ≡ shown_move goal rule (path_end (position_after rule) p xs) m
  last-append p [] m = refl
  last-append p (x ∷ []) m = refl
  last-append p (x ∷ (y ∷ xs)) m = last-append (position_after rule p x) (y ∷ xs) m

  -- the path leads to the position
  pub path_end-path : (p : Position) (frames : List Frame) → position rule p frames ≡ path_end (position_after rule) p (path frames)
  unfolding position path
  path_end-path p [] = search rules
  path_end-path p (f ∷ []) = search rules
  path_end-path p (f ∷ (g ∷ below)) = search (rules, path_end-append, path_end-path p (g ∷ below))

module _ (rule : RuleSet) where
  -- the path with one frame more leads on by that frame's move
  pub position-more : (p : Position) (f : Frame) (fs : List Frame) → 0 < length fs → position rule p (f ∷ fs) ≡ position_after rule (position rule p fs) f.by
  unfolding position
  position-more p f fs some = search rules

  linked-cut : (p : Position) (xs ys : List Frame) → IsLinked rule p (xs ++ ys) → IsLinked rule p ys
  unfolding IsLinked
  linked-cut p [] ys l = l
  linked-cut p (f ∷ xs) ys l = search (rules, linked-cut p xs ys)

  -- the lower frames are linked as before
  pub linked-take : (p : Position) (frames : List Frame) (n : ℕ) → IsLinked rule p (reverse frames) → IsLinked rule p (reverse (take n frames))
  linked-take p frames n l = grind (arith, take-append-drop n frames, reverse-append (take n frames) (drop n frames), linked-cut)

  -- a frame and the frames below it
  module _ {upper lower : List Frame} {f : Frame} (top : IsTopped upper lower f) where
    stacked : reverse upper ≡ f ∷ reverse lower
    stacked = popped upper lower f top.cut

    -- what taking its move back asks for
    pub back-asks : (h : ℕ) (p board : Position) → IsWalking rule h p (reverse upper) board → CameFrom rule f board
    back-asks h p board r = grind (arith, CameFrom-deep, stacked, length-reverse)

    -- played again from their position the move is legal
    pub forth-is_legal : (p : Position) → IsLinked rule p (reverse upper) → is_legal rule (position rule p (reverse lower)) f.by ≡ true
    unfolding IsLinked
    forth-is_legal p l = search (rules, stacked, length-reverse)

    -- played again from its position, the move leads to the upper frames' position
    pub forth-position : (p : Position) → position rule p (reverse upper) ≡ position_after rule (position rule p (reverse lower)) f.by
    forth-position p = grind (arith, stacked, position-more, length-reverse)

    -- where the board stands
    pub forth-again : (h : ℕ) (p board before : Position) (frames : List Frame) → upper ≡ frames → IsWalking rule h p (reverse frames) board
        → before ≡ position rule p (reverse lower) → position_after rule before f.by ≡ board
    forth-again h p board before frames e r at = search (rules, forth-position)

    -- the move is the last of the moves that are shown
    pub forth-along : (goal : Goal) (p : Position) → moves_shown goal rule p (path (reverse upper))
        ≡ moves_shown goal rule p (path (reverse lower)) ++ shown_move goal rule (position rule p (reverse lower)) f.by ∷ []
    forth-along goal p = search (rules, stacked, length-reverse, path-more, along-append, path_end-path)

    -- once its move was taken back
    module _ (h : ℕ) (p board after : Position) (r : IsWalking rule h p (reverse upper) board)
        (before : (q : Position) → CameFromAt rule f board q → after ≡ q) where
      -- the walk on the frames below
      pub back-walking : IsWalking rule h p (reverse lower) after
      back-walking = let r2 = rw stacked at r in search (rules, walking-close rule h p f (reverse lower) board after r2, length-reverse)

      -- the move is legal
      pub back-is_legal : is_legal rule after f.by ≡ true
      back-is_legal = rw back-walking.board_at (forth-is_legal p r.linked)

      -- the move leads back to the board
      pub back-again : position_after rule after f.by ≡ board
      back-again = forth-again h p board after upper refl r back-walking.board_at

      -- the move leads to the goal, where it ends with the goal
      pub back-ended : (mode : Mode) → IsEnded rule mode (reverse upper) board → (b : Reached)
          → b ≡ cond (ends_at_goal mode.battle mode.variation f.left) Certainly Perhaps → b ≡ Certainly
          → (chess mode.goal rule).goal (position_after rule after f.by) ≡ true
      back-ended mode ended b e here = search (rules, back-again, stacked)

      -- the move is shown as the last of the path
      pub back-shown : (goal : Goal) → shown_move goal rule after f.by ≡ last_shown goal rule p (path (reverse upper))
      back-shown goal = search (rules, back-walking, stacked, length-reverse, path-more, last-append, path_end-path)

  -- the lowest frame is at the first position
  pub first-position : (p : Position) (frames : List Frame) (k : ℕ) → k ≤ 1 → position rule p (reverse (take k frames)) ≡ p
  unfolding position
  first-position p frames k few = search (rules, length-reverse)

  -- no move leads there
  pub first-path : (goal : Goal) (p : Position) (frames : List Frame) → moves_shown goal rule p (path (reverse (take 1 frames))) ≡ []
  unfolding path
  first-path goal p frames = search rules
