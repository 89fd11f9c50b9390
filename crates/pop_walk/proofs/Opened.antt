-- How many positions a search counts, from one progress to the next.
use Rattle.pop_walk.proofs.Words.{BareEvent, Bool, NotPossible, Set, Before, ◌++◌, After, Frame, HasCounted, IsCountedUpTo, IsSound, List, Phase, Play, Posed, RuleSet, Progress, First, Whole, Within, goes_on, left_of, refl, phase_events, [], arith, cond, drop, eqb, false, first_phase, is_help, is_walked_once, Walk, walk_of, and_parts, is_impossible_phase, is_stop, is_unstopped, min, not, phase_half_moves, phase_start, phase_walk, mode_of, position, rules, suc, to_open, total, true, zero, ℕ, ◌&&◌, ◌+◌, ◌-◌, ◌<◌, ◌^◌, ◌∷◌, ◌≡◌, ◌≤◌, ◌⊎◌}
use Rattle.pop_walk.specs.ties.Counts.{Counts, CountsOn, CountsWalk, IsOpened, are_whites, fewest_left, fewest_tried, is_walked_once_by, least_if, searches_all, none_untried, untried, untried_at, untried_from}
use Rattle.pop_walk.specs.Walks.{is_never_stopped, whole_walk}
use Rattle.pop_battle.proofs.Boards.{after_start}
use Rattle.pop_walk.proofs.Counting.{walk_count-start}
use Rattle.pop_walk.proofs.GoingOn.{cases, ways}
use Rattle.pop_walk.proofs.Sound.{some_way}

some-event : (xs : List BareEvent) (y : BareEvent) (ys : List BareEvent) → (xs ++ y ∷ ys) ≡ [] → ⊥
some-event [] y ys e = cc
some-event (x ∷ xs) y ys e = cc

module _ (rule : RuleSet) (problem : Posed) where
  -- what a call counts, where something has to be tried only if `full`
  abbrev CountsIf : Bool → (old new : Progress) → (frames last : List Frame) → (before after : ℕ) → Type 0
  CountsIf full old new frames last before after =
      Counts (least_if full (untried_at rule problem old frames)) (untried_at rule problem new last) before after

  -- a phase begins: its root is opened
  module _ (sound : IsSound problem) (phase : Phase) (f : Frame) (left_is : f.left ≡ phase_half_moves problem phase) (place_is : f.place ≡ 0)
      (possible : is_impossible_phase rule problem phase ≡ false) where
    root-open : phase_walk rule problem phase ≡ cond (eqb f.left 0) 0 1 + to_open rule (phase_start problem phase) (f ∷ [])
    unfolding to_open position
    root-open = rw (possible, place_is, ← left_is) (omega (arith, walk_count-start rule f.left (phase_start problem phase)))

    -- the root of a phase is counted
    pub counts-begun : (old : List Frame) (before after : ℕ) (full : Bool) → after ≡ min (before + cond (eqb f.left 0) 0 1) (2 ^ 64 - 1)
        → CountsIf full (Before phase) (Within (walk_of problem phase Whole) 0) old (f ∷ []) before after
    unfolding untried_at least_if untried fewest_left position is_walked_once_by are_whites
    counts-begun old before after full one = search (rules, ways, some_way, after_start, root-open)

  -- within a phase
  module _ (more : Bool) (walk : Walk) (count : ℕ) (old new : List Frame) (before after : ℕ)
      (x : CountsWalk more rule (mode_of problem) (phase_half_moves problem walk.phase) (phase_start problem walk.phase) old new before after) where
    -- what a call counts that gives a path
    pub counts-given : (next : ℕ) (full : Bool) (last : List Frame) → last ≡ new
        → CountsIf (more && full) (Within walk count) (Within walk next) old last before after
    unfolding untried_at least_if
    counts-given next full last kept = rw kept (search rules)

    -- what it counts that ends the phase
    pub counts-ended : (progress : Progress) (last : List Frame) (left : List BareEvent) → progress ≡ cond (goes_on walk) (Before Play) After
        → count ≤ problem.max_solutions → (new ≡ []) ⊎ (problem.max_solutions - count ≡ 0)
        → CountsIf (more && is_unstopped (total count (eqb count problem.max_solutions) ∷ left)) (Within walk count) progress old last before after
    unfolding untried_at least_if untried to_open fewest_left
    counts-ended progress last left at most over = search rules

  -- nothing is tried between the path of a beginning and the paths after it
  pub counts-first : (walk : Walk) (progress : Progress) (is : (n : ℕ) × (progress ≡ Within walk n)) (frames : List Frame) (opened : ℕ) (full : Bool)
      → CountsIf full (First walk) progress frames frames opened opened
  unfolding untried_at least_if
  counts-first walk progress is frames opened full = rw is.1 (search rules)

  -- where no event is to come nothing is still to be tried
  pub none-left : (progress : Progress) (frames : List Frame) → left_of rule problem progress frames ≡ []
      → untried_at rule problem progress frames ≡ none_untried
  unfolding left_of untried_at phase_events
  none-left (Before Set) frames e = absurd cc
  none-left (Before Play) frames e = absurd cc
  none-left NotPossible frames e = absurd cc
  none-left (First walk) frames e = absurd (some-event _ _ _ e)
  none-left (Within walk count) frames e = absurd (some-event _ _ _ e)
  none-left After frames e = refl

  -- what a count says: at most the walk count, and after the last event all that had to be tried
  module _ (prunes : Bool) (progress : Progress) (frames : List Frame) (opened : ℕ) (o : IsOpened prunes rule problem progress frames opened) where
    pub most-opened : is_walked_once problem ≡ true → opened ≤ whole_walk rule problem
    unfolding least_if
    most-opened once = let first : (untried_from rule problem (first_phase problem)).once ≡ true = search rules in omega (arith, o.most first)

    module _ (all : searches_all prunes problem ≡ true) (never : is_never_stopped rule problem ≡ true) (none : left_of rule problem progress frames ≡ []) where
      at_the_end : HasCounted 0 opened (untried_from rule problem (first_phase problem)).least
      unfolding least_if
      at_the_end = let least = rw (all, never, none-left progress frames none) at o.least in omega (arith, least)

      pub all-opened : opened < 2 ^ 64 → is_help problem.stipulation.form ≡ true → opened ≡ min (whole_walk rule problem) (2 ^ 64 - 1)
      all-opened fits help =
          let least = rw help at at_the_end in
          let once : is_walked_once problem ≡ true = search rules in
          omega (arith, least, fits, most-opened once)

      pub fewest-opened : is_help problem.stipulation.form ≡ false → min (fewest_tried rule problem) (2 ^ 64 - 1) ≤ opened
      fewest-opened battle = let least = rw battle at at_the_end in omega (arith, least)

  -- a call that walked again from the phase's first position would count what had been counted before twice
  pub no_second_walk : (old new : Progress) (frames last : List Frame) (before after again : ℕ)
      → CountsOn false rule problem old new frames last before after → (untried_at rule problem old frames).once ≡ true → 0 < before
      → before + (untried_at rule problem old frames).most - (untried_at rule problem new last).most ≤ again → after ≡ before + again → ⊥
  unfolding least_if
  no_second_walk old new frames last before after again x once some whole sum = omega (arith, x.most once)

  all-drop : (k : ℕ) (xs : List BareEvent) → is_unstopped xs ≡ true → is_unstopped (drop k xs) ≡ true
  all-drop zero xs e = e
  all-drop (suc k) [] e = e
  all-drop (suc k) (x ∷ xs) e = all-drop k xs (and_parts (not (is_stop x)) (is_unstopped xs) e).1

  -- the counts hold on after a call
  pub opened-on : (prunes : Bool) (old new : Progress) (frames last : List Frame) (before after given : ℕ)
      → IsCountedUpTo rule problem (left_of rule problem old frames) given
      → CountsOn prunes rule problem old new frames last before after → IsOpened prunes rule problem old frames before
      → IsOpened prunes rule problem new last after
  unfolding least_if
  opened-on prunes old new frames last before after given g x o = search (rules, cases (searches_all prunes problem), all-drop)
