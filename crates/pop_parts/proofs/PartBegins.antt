-- How a part begins: its solutions come after its first moves.
use Rattle.pop_parts.proofs.Words.{Frame, IsLinked, IsPartOpened, IsSound, List, Move, Phase, Posed, Position, RuleSet, Progress, [], cut-at, eqb, events_along, false, get_or, is_help, is_legal, legal_moves, length, length-append, length-reverse, nat_tests, nil_from_length, part_events, part_solutions, part_walk, path, path-length, path-more, path_end, path_end-append, path_end-path, phase_half_moves, phase_start, position_after, refl, reverse, rules, some-taken, suc, take, true, walk_count, arith, ℕ, ◌++◌, ◌+◌, ◌-◌, ◌<◌, ◌∙◌, ◌∷◌, ◌≡◌, ◌≤◌}
use Rattle.pop_parts.proofs.Parts.{part_cut}
use Rattle.pop_parts.specs.ties.Beginnings.{IsSeeking}
use Rattle.pop_parts.specs.ties.PartsSeen.{are_legal}
use Rattle.pop_walk.proofs.Counting.{counts-if}
use Rattle.pop_walk.specs.ties.Counts.{Counts, exactly, least_if, untried_at}
use Rattle.pop_walk.proofs.Solved.{IsCutInto}
use Rattle.pop_walk.proofs.Walking.{popped}
use Rattle.pop_walk.specs.ties.Beginnings.{IsBeginning, paths_by}

-- the moves to the lowest frame, and to the one at k
pub beginning-none : (frames : List Frame) → [] ≡ path (reverse (take 1 frames))
unfolding path
beginning-none frames = search rules

-- one more frame is one more move
pub beginning-more : (frames : List Frame) (k : ℕ) (f : Frame) → f ≡ get_or frames k f → 0 < k → k < length frames
    → path (reverse (take (k + 1) frames)) ≡ path (reverse (take k frames)) ++ f.by ∷ []
beginning-more frames k f at some less =
    let upper = popped _ _ f (cut-at frames (k + 1) k f refl at less) in
    search (rules, upper, path-more f (reverse (take k frames)), some-taken frames k, length-reverse)

-- the moves to a walk's top frame are legal
module _ (rule : RuleSet) where
  is_legal-more : (p : Position) (xs : List Move) (m : Move) → are_legal rule p xs ≡ true → is_legal rule (path_end (position_after rule) p xs) m ≡ true
      → are_legal rule p (xs ++ m ∷ []) ≡ true
  unfolding are_legal
  is_legal-more p [] m a l = search rules
  is_legal-more p (x ∷ xs) m a l = search (rules, is_legal-more (position_after rule p x) xs m)

  is_legal-path : (p : Position) (frames : List Frame) → IsLinked rule p frames → are_legal rule p (path frames) ≡ true
  unfolding IsLinked path are_legal
  is_legal-path p [] l = refl
  is_legal-path p (f ∷ []) l = refl
  is_legal-path p (f ∷ (g ∷ below)) l = search (rules, is_legal-more, is_legal-path p (g ∷ below), path_end-path)

-- one frame has no move
path-one : (frames : List Frame) → length frames ≡ 1 → path frames ≡ []
unfolding path
path-one frames e = search (rules, nil_from_length, path-length)

none-before : (n : ℕ) → 0 + n ≡ n
none-before n = omega arith

at-root : (n : ℕ) → 0 < n → eqb (n - 1) 0 ≡ eqb n 1
at-root n some = grind (arith, nat_tests)

-- a part of help play has tried at most the positions of its walk
pub most-opened : (rule : RuleSet) (problem : Posed) (phase : Phase) (front : List Move) (progress : Progress) (frames : List Frame)
    (opened : ℕ) → IsPartOpened rule problem phase front progress frames opened → is_help problem.stipulation.form ≡ true
    → opened ≤ part_walk rule problem phase front
unfolding least_if
most-opened rule problem phase front progress frames opened o help = omega (arith, (o help).most refl)

module _ (rule : RuleSet) (problem : Posed) (sound : IsSound problem) (phase : Phase) (frames : List Frame) (board : Position) (d : ℕ)
    (s : IsSeeking rule (phase_half_moves problem phase) d (phase_start problem phase) (reverse frames) board) (long : length frames ≡ d)
    (some : 0 < length frames) (m : Move) (lawful : is_legal rule board m ≡ true)
    (alone : is_help problem.stipulation.form ≡ false → length frames ≡ 1) where
  -- the frames from the top down
  abbrev old : List Frame
  old = reverse frames

  abbrev n : ℕ
  n = length frames

  size : length old ≡ n
  size = length-reverse frames

  abbrev h : ℕ
  h = phase_half_moves problem phase

  abbrev p : Position
  p = phase_start problem phase

  room : n ≤ h
  room = omega (arith, s.room, long)

  -- a walk over first moves begins a search after them
  pub is-beginning : IsBeginning rule problem phase n old board
  is-beginning = record { walking = s.walking; idle = s.idle; long = size; some = some; within = room }

  abbrev beginning : List Move
  beginning = path old ++ m ∷ []

  -- what the walk shows by the last of its moves
  abbrev come : List (List Move)
  come = paths_by rule problem phase n old board m

  board-at : board ≡ path_end (position_after rule) p (path old)
  board-at = s.walking.board_at ∙ path_end-path problem.stipulation.goal rule p old

  come-cut : IsCutInto (is_help problem.stipulation.form) problem.max_solutions come (part_solutions rule problem phase beginning)
  come-cut =
      let length-is : length (path old) ≡ n - 1 = omega (arith, path-length old, size) in
      let more : h - (n - 1) ≡ suc (h - n) = omega (arith, some, room) in
      let may = is_legal-more rule p (path old) m (is_legal-path rule p old s.walking.linked) (rw (← board-at) lawful) in
      rw (length-is, more, at-root n some, ← board-at) at (part_cut rule problem sound phase (path old) m (omega (arith, length-is, some, room))
      (λ battle. path-one old (size ∙ alone battle)) may)

  -- their events are the part's
  pub events-begun : events_along problem phase 0 come [] ≡ part_events rule problem phase beginning
  unfolding part_events
  events-begun = search (rules, come-cut, none-before)

  walk-is : part_walk rule problem phase beginning ≡ walk_count (legal_moves rule) (position_after rule) (h - n) (position_after rule board m)
  walk-is = grind (arith, length-append, path-length, size, path_end-append problem.stipulation.goal rule p (path old) m, board-at)

  -- the part has begun
  pub opens-begun : (progress : Progress) (new : List Frame) (opened : ℕ) → (is_help problem.stipulation.form ≡ true
      → Counts (exactly (walk_count (legal_moves rule) (position_after rule) (h - n) (position_after rule board m))) (untried_at rule problem progress new) 0
      opened)
      → IsPartOpened rule problem phase beginning progress new opened
  opens-begun progress new opened counted help = counts-if false _ _ _ _ (rw walk-is (counted help))
