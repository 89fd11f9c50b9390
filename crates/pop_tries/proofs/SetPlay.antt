-- How a search for tries begins, and its steps in set play.
unfoldable use Rattle.pop_walk.specs.ties.Walk.{AreEnds}
use Rattle.pop_tries.proofs.Words.{IsSound, List, Posed, Position, RuleSet, Set, [], ap, arith, false, flat_map, length, length-append, refl, rules, set_event, take, true, ℕ, ◌++◌, ◌∙◌, ◌∷◌, ◌≡◌, ◌≤◌}
unfoldable use Rattle.pop_tries.proofs.Words.{phase_events}
use Rattle.pop_battle.specs.ties.Frames.{Frame}
use Rattle.pop_battle.proofs.Words.{append_assoc}
use Rattle.pop_walk.specs.Events.{BareEvent, impossible, is_impossible_phase, opening, phase_count, phase_start, solutions}
use Rattle.pop_walk.specs.declared.phases.Scope.TheVariants.{Part}
use Rattle.pop_walk.specs.declared.phases.Progress.{Progress}
use Rattle.pop_walk.specs.declared.phases.Progress.TheVariants.{After, NotPossible as NotPossiblePhase, Before, First, Within as WithinPhase}
use Rattle.pop_walk.specs.ties.Phases.{beginning_count, kept_paths, phase_paths}
unfoldable use Rattle.pop_walk.specs.ties.Phases.{HoldsAtProgress, left_of as set_play_left}
use Rattle.pop_walk.specs.ties.Modes.{walk_of}
use Rattle.pop_walk.specs.declared.phases.Walk.{Walk}
use Rattle.pop_walk.specs.ties.Walk.{IsWalking}
unfoldable use Rattle.pop_walk.specs.ties.Walk.{IsRoomy}
unfoldable use Rattle.pop_battle.specs.ties.Frames.{AreCursors, IsLinked, position}
use Rattle.pop_battle.proofs.Boards.{after_start}
use Rattle.chess_rules.specs.ties.Places.{moves_after}
use Rattle.pop_walk.proofs.Solved.{IsCutInto, root-solutions}
use Rattle.pop_walk.proofs.Sound.{start_sound}
use Rattle.pop_walk.specs.Events.{phase_half_moves}
use Rattle.std.specs.Prelude.{None}
use Rattle.pop_tries.proofs.Words.{IsWellFormed}
use Rattle.pop_stipulation.specs.Stipulations.{is_help}
use Rattle.pop_tries.specs.declared.progress.Task.{Task}
use Rattle.pop_tries.specs.declared.first_moves.Group.TheVariants.{Keys}
use Rattle.pop_tries.specs.ties.Candidates.{candidates_of}
use Rattle.pop_tries.specs.declared.progress.TriesProgress.TheVariants.{Beginning, NotPossible, SetPlay, InSetPlay}
unfoldable use Rattle.pop_tries.specs.ties.Searching.{left_of}
use Rattle.std.specs.Prelude.{reverse}
use Rattle.std.proofs.lemmas.List.{length-reverse, nil_from_length}

-- set play begins
pub set_begun : (rule : RuleSet) (problem : Posed) (new : List Frame) → is_impossible_phase rule problem Set ≡ false
    → kept_paths (is_help problem.stipulation.form) problem.max_solutions (phase_paths rule problem Set new) ≡ flat_map (λ solution. solution)
    (take problem.max_solutions (solutions rule problem Set)) → beginning_count (is_help problem.stipulation.form) problem.max_solutions
    (phase_paths rule problem Set new) ≡ phase_count rule problem Set
    → phase_events rule problem Set ≡ opening Set ∷ set_play_left rule problem (WithinPhase (walk_of problem Set Part) 0) new
unfolding set_play_left phase_events
set_begun rule problem new e kept begun = search (rules, append_assoc)

-- set play isn't possible
pub set_barred : (rule : RuleSet) (problem : Posed) → is_impossible_phase rule problem Set ≡ true
    → phase_events rule problem Set ≡ opening Set ∷ (impossible ∷ [])
unfolding phase_events
set_barred rule problem e = rw e refl

some_left : {X C : Type 0} (xs : List X) (x : X) (ys : List X) → xs ++ x ∷ ys ≡ [] → C
some_left xs x ys e = absurd (omega (arith, ap length e, length-append xs (x ∷ ys)))

-- with nothing left of set play no frame is in use
pub none_after : (rule : RuleSet) (problem : Posed) (progress : Progress) (frames : List Frame) (board : Position)
    → HoldsAtProgress rule problem progress frames board → set_play_left rule problem progress frames ≡ [] → frames ≡ []
unfolding HoldsAtProgress set_play_left
none_after rule problem (Before phase) frames board h e = h.0
none_after rule problem NotPossiblePhase frames board h e = h.0
none_after rule problem (First walk) frames board h e = some_left _ _ _ e
none_after rule problem (WithinPhase walk count) frames board h e = some_left _ _ _ e
none_after rule problem After frames board h e = h.0

-- a new frame at p is a walk from p
walks_from : (rule : RuleSet) (h : ℕ) (p board : Position) (f : Frame) → IsWellFormed p → board ≡ p → f.left ≤ h → f.cursor ≡ None
    → f.line_ends ≡ None → IsWalking rule h p (f ∷ []) board
unfolding IsLinked IsRoomy AreCursors AreEnds position
walks_from rule h p board f well same room none no_ends = grind (arith, well, same, room, none, no_ends)

-- set play begins with one frame
module _ (rule : RuleSet) (problem : Posed) (s : IsSound problem) (was items : List Frame) (f : Frame) (empty : was ≡ []) (one : items ≡ was ++ f ∷ [])
    (left : f.left ≡ phase_half_moves problem Set) where
  pub walk_begins : (board : Position) → board ≡ phase_start problem Set → f.cursor ≡ None → f.line_ends ≡ None
      → IsWalking rule (phase_half_moves problem Set) (phase_start problem Set) (reverse items) board
  walk_begins board at none no_ends =
      rw (one, empty) (walks_from rule (phase_half_moves problem Set) (phase_start problem Set) board f (start_sound problem s Set) at
      (omega (arith, left)) none no_ends)

  pub paths_begin : f.place ≡ 0 → IsCutInto (is_help problem.stipulation.form) problem.max_solutions (phase_paths rule problem Set (reverse items))
      (solutions rule problem Set)
  paths_begin first = rw (one, empty) (root-solutions rule problem s Set f left (ap (moves_after rule (phase_start problem Set)) first
      ∙ after_start rule (phase_start problem Set)))

module _ (rule : RuleSet) (task : Task) where
  -- the events of set play, as it begins
  pub left_begun : (was items : List Frame) (walk : Walk) → walk ≡ walk_of task.problem Set Part → is_impossible_phase rule task.problem Set ≡ false
      → IsCutInto (is_help task.problem.stipulation.form) task.problem.max_solutions (phase_paths rule task.problem Set (reverse items))
      (solutions rule task.problem Set)
      → left_of rule task SetPlay was ≡ set_event (opening Set) ∷ left_of rule task (InSetPlay (WithinPhase walk 0)) items
  unfolding left_of
  left_begun was items walk e i cut = rw (e, set_begun rule task.problem (reverse items) i cut.kept cut.begun) refl

  -- the events where set play isn't possible
  pub left_barred : (was items : List Frame) → is_impossible_phase rule task.problem Set ≡ true
      → left_of rule task SetPlay was ≡ set_event (opening Set) ∷ left_of rule task NotPossible items
  unfolding left_of
  left_barred was items i = rw (set_barred rule task.problem i) refl

  -- an event of set play
  pub left_goes_on : (old new : Progress) (was items : List Frame) (bare : BareEvent)
      → set_play_left rule task.problem old (reverse was) ≡ bare ∷ set_play_left rule task.problem new (reverse items)
      → left_of rule task (InSetPlay old) was ≡ set_event bare ∷ left_of rule task (InSetPlay new) items
  unfolding left_of
  left_goes_on old new was items bare e = rw e refl

  -- set play ends
  pub left_ends : (old : Progress) (was items : List Frame) → set_play_left rule task.problem old (reverse was) ≡ []
      → left_of rule task (InSetPlay old) was ≡ left_of rule task (Beginning Keys (candidates_of None)) items
  unfolding left_of
  left_ends old was items e = rw e refl

-- frames whose reverse is empty
pub none_reversed : (items : List Frame) → reverse items ≡ [] → items ≡ []
none_reversed items e = nil_from_length items (omega (arith, length-reverse items, ap length e))
