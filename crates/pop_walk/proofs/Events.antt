-- What a call of `next` returns.
use Rattle.pop_walk.proofs.Words.{After, Before, Frame, Progress, Total, goes_on, is_none, sym, IsRoomy, IsSound, List, Phase, Play, Posed, Position, RuleSet, Walks, Within, [], append_assoc, arith, cond, drop, eqb, events_from, false, flat_map, half_moves, is_impossible_phase, BareEvent, Event, First, Gives, IsAtPathOf, IsWalking, Move, Whole, begins_solution, event_of, events_after, events_along, path, path_event, phase_count, Walk, walk_of, Bool, ap, ◌<◌, ◌∙◌, beginning_count, is_help, kept_paths, left_of, length, length-reverse, nat_tests, opening, phase_events, phase_half_moves, phase_paths, phase_start, mode_of, refl, reverse, rules, solutions, take, total, true, ℕ, ◌+◌, ◌-◌, ◌||◌, ◌∷◌, ◌≡◌, ◌≤◌, drop-drop}
use Rattle.pop_stipulation.specs.declared.stipulation.TheConstants.{MOST_FRAMES}
use Rattle.pop_walk.proofs.Sound.{in_range}
use Rattle.pop_walk.proofs.Kept.{beginning_count-next, keep-next}
use Rattle.pop_walk.proofs.Paths.{path-length, path_end-path}

-- frames with room for their half-moves are at most one more than these
pub room-length : (h : ℕ) (fs : List Frame) → IsRoomy h fs → length fs ≤ h + 1
unfolding IsRoomy
room-length h [] s = omega arith
room-length h (f ∷ below) s = omega (arith, s.0)

-- what a phase's walk is by
module _ (problem : Posed) (walk : Walk) (is : walk ≡ walk_of problem walk.phase walk.scope) where
  -- the mode of the problem
  pub mode-is : walk.mode ≡ mode_of problem
  mode-is = ap (λ (w : Walk). w.mode) is

  -- the half-moves of the phase
  pub half_moves-are : walk.half_moves ≡ phase_half_moves problem walk.phase
  half_moves-are = ap (λ (w : Walk). w.half_moves) is

  -- what walking on leaves
  pub walks-are : (rule : RuleSet) (p : Position) (limit : ℕ) (old new : List Frame) (board : Position) (given : Bool)
      → Walks rule walk.mode (is_none walk.mode.battle) walk.half_moves p limit old new board given
      → Walks rule (mode_of problem) (is_help problem.stipulation.form) (phase_half_moves problem walk.phase) p limit old new board given
  walks-are rule p limit old new board given w = search (rules, mode-is, half_moves-are)

-- none is given: the total is left
pub left-ended : (rule : RuleSet) (problem : Posed) (walk : Walk) (count : ℕ) (old new : List Frame) (board : Position)
    → Walks rule (mode_of problem) (is_help problem.stipulation.form) (phase_half_moves problem walk.phase) (phase_start problem walk.phase)
    (problem.max_solutions - count) old new board false
    → left_of rule problem (Within walk count) old ≡ total count (eqb count problem.max_solutions) ∷ events_after rule problem walk
unfolding left_of
left-ended rule problem walk count old new board w = search rules

-- the progress after a phase has the events after it
after-is : (rule : RuleSet) (problem : Posed) (b : Bool) (progress : Progress) (frames : List Frame) → progress ≡ cond b (Before Play) After
    → left_of rule problem progress frames ≡ cond b (events_from rule problem Play) []
unfolding left_of
after-is rule problem true progress frames e = rw e refl
after-is rule problem false progress frames e = rw e refl

-- the total is given
pub ended-gives : (rule : RuleSet) (problem : Posed) (walk : Walk) (count : ℕ) (old mid : List Frame) (at : Position)
    → Walks rule (mode_of problem) (is_help problem.stipulation.form) (phase_half_moves problem walk.phase) (phase_start problem walk.phase)
    (problem.max_solutions - count) old mid at false → (progress : Progress) → progress ≡ cond (goes_on walk) (Before Play) After
    → (new : List Frame) (event : Event) → event ≡ Total count (eqb count problem.max_solutions) → (board : Position) (depth : ℕ)
    → Gives rule problem (left_of rule problem (Within walk count) old) (left_of rule problem progress new) event board depth
ended-gives rule problem walk count old mid at w progress next new event e board depth = record {
  bare = total count (eqb count problem.max_solutions);
  left = left-ended rule problem walk count old mid at w ∙ ap (λ xs. total count (eqb count problem.max_solutions) ∷ xs)
      (sym (after-is rule problem (goes_on walk) progress new next));
  event_is = e;
  stands = tt;
}

module _ (rule : RuleSet) (problem : Posed) (walk : Walk) (count : ℕ) (old : List Frame) (frames : List Frame) (board : Position)
    (most : count ≤ problem.max_solutions)
    (w : Walks rule (mode_of problem) (is_help problem.stipulation.form) (phase_half_moves problem walk.phase) (phase_start problem walk.phase)
    (problem.max_solutions - count) old
    (reverse frames) board true) where
  -- a path that is given has a move
  pub deep-given : 2 ≤ length frames
  deep-given = omega (arith, w.deep refl, length-reverse frames)

  -- a solution that begins with it is within the limit
  pub room-given : cond (is_help problem.stipulation.form || eqb (length frames) 2) 1 0 ≤ problem.max_solutions - count
  room-given = grind (arith, path-length, length-reverse, deep-given, nat_tests)

  -- the path fits a line's room
  pub shallow-given : IsSound problem → length frames ≤ MOST_FRAMES
  shallow-given s = search (rules, room-length, length-reverse, in_range)

-- a phase begins
pub left-begun : (rule : RuleSet) (problem : Posed) (phase : Phase) (old new : List Frame) → is_impossible_phase rule problem phase ≡ false
    → kept_paths (is_help problem.stipulation.form) problem.max_solutions (phase_paths rule problem phase new) ≡ flat_map (λ solution. solution)
    (take problem.max_solutions (solutions rule problem phase)) → beginning_count (is_help problem.stipulation.form) problem.max_solutions
    (phase_paths rule problem phase new) ≡ phase_count rule problem phase → left_of rule problem (Before phase) old ≡ opening phase ∷ left_of rule problem
    (Within (walk_of problem phase Whole) 0) new
unfolding left_of phase_events
left-begun rule problem phase old new e kept begun = search (rules, append_assoc)

-- the events still to come after a call
pub drop-next : {A : Type 0} (k : ℕ) (xs : List A) (y : A) (ys : List A) → y ∷ ys ≡ drop k xs → ys ≡ drop (k + 1) xs
drop-next k xs y ys e = ap (drop 1) e ∙ drop-drop 1 k xs

-- a path that is given begins the events still to come
module _ (rule : RuleSet) (problem : Posed) (walk : Walk) (frames : List Frame) (board : Position) (deep : 2 ≤ length frames)
    (r : IsWalking rule (phase_half_moves problem walk.phase) (phase_start problem walk.phase) (reverse frames) board) where
  abbrev help : Bool
  help = is_help problem.stipulation.form

  abbrev top : List Move
  top = path (reverse frames)

  -- the solutions that begin with it, as the code and as the definitions count them
  abbrev more : ℕ
  more = cond (help || eqb (length frames) 2) 1 0

  abbrev here : ℕ
  here = cond (begins_solution help top) 1 0

  more-here : more ≡ here
  more-here = grind (arith, path-length, length-reverse, nat_tests)

  stands-on : IsAtPathOf rule problem (path_event problem walk.phase top) board (length frames)
  stands-on = grind (arith, path_end-path, path-length, length-reverse)

  gives-next : (count : ℕ) (paths rest : List (List Move)) (later : List BareEvent)
      → kept_paths help (problem.max_solutions - count) paths ≡ top ∷ kept_paths help (problem.max_solutions - count - here) rest
      → beginning_count help (problem.max_solutions - count) paths ≡ here + beginning_count help (problem.max_solutions - count - here) rest
      → (next : ℕ) → next ≡ count + more → (event : Event) → event ≡ event_of rule problem (path_event problem walk.phase top)
      → Gives rule problem (events_along problem walk.phase count paths later) (events_along problem walk.phase next rest later) event board (length frames)
  gives-next count paths rest later kept begun next n event e =
      let left-is : problem.max_solutions - count - here ≡ problem.max_solutions - next = omega (arith, n, more-here) in
      let counts-next : next + beginning_count help (problem.max_solutions - next) rest ≡ count + beginning_count help (problem.max_solutions - count) paths =
      rw (begun, left-is) (omega (arith, n, more-here)) in
      search (rules, counts-next, left-is, stands-on)

  -- the path of a beginning is given first
  pub first-gives : IsSound problem → (next : ℕ) → next ≡ 0 + more → (stand : Position) → stand ≡ board
      → (event : Event) → event ≡ event_of rule problem (path_event problem walk.phase top)
      → Gives rule problem (left_of rule problem (First walk) (reverse frames)) (left_of rule problem (Within walk next) (reverse frames)) event stand
      (length frames)
  unfolding left_of
  first-gives sound next n stand stays event e =
      let some : 0 < problem.max_solutions - 0 = omega (arith, sound.some_solution) in
      rw stays (gives-next 0 _ _ _ (keep-next help _ _ _ _ refl (λ b. some)) (beginning_count-next help _ _ _ _ refl (λ b. some)) next n event e)

  -- a path that the walk finds is given next
  pub found-gives : (count : ℕ) (old : List Frame)
      → Walks rule (mode_of problem) help (phase_half_moves problem walk.phase) (phase_start problem walk.phase) (problem.max_solutions - count) old
      (reverse frames) board true → (next : ℕ) → next ≡ count + more → (event : Event) → event ≡ event_of rule problem (path_event problem walk.phase top)
      → (stand : Position) → stand ≡ board
      → Gives rule problem (left_of rule problem (Within walk count) old) (left_of rule problem (Within walk next) (reverse frames)) event stand
      (length frames)
  unfolding left_of
  found-gives count old w next n event e stand stays = rw stays (gives-next count _ _ _ (w.come refl) (w.starts refl) next n event e)

  -- the path of a beginning fits a line's room
  pub first-shallow : IsSound problem → length frames ≤ MOST_FRAMES
  first-shallow s = search (rules, room-length, length-reverse, in_range)

-- one solution is within the limit
pub first-most : (problem : Posed) → IsSound problem → (n next : ℕ) → next ≡ 0 + cond (is_help problem.stipulation.form || eqb n 2) 1 0
    → next ≤ problem.max_solutions
first-most problem s n next e = grind (arith, s.some_solution)

-- for `Search::depth`
pub ruleset roomy = (length-reverse, room-length)
