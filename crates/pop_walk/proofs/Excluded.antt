-- What the clauses of a search exclude: events emitted after the board was taken back, or twice; totals
-- that are wrong or come too early; mates that are skipped; and counts of events and frames that begin or
-- grow otherwise.
use Rattle.pop_walk.proofs.Words.{ArrayVec, BareEvent, NotPossible, Before, Bool, Event, Frame, Gives, GoesTo, IsCountedUpTo, Line, List, Move, Node, Mode, Posed, Position, RuleSet, Shown, Total, Within, [], allows_mate, ap, arith, eqb, event_of, false, filter, filter-append, first_phase, is_help, is_mating, is_none, is_walked_once, kept_paths, left_of, length, length-append, map, min, moves_after, path_event, phase_paths, rules, total, true, ℕ, ◌++◌, ◌+◌, ◌-◌, ◌^◌, ◌<◌, ◌∷◌, ◌≡◌, ◌⊎◌, Walk}
use Rattle.pop_walk.specs.ties.Counts.{IsOpened, least_if, untried_at}
use Rattle.pop_stipulation.specs.declared.stipulation.Goal.TheVariants.{Stalemate}

module _ (rule : RuleSet) (problem : Posed) (old new : List BareEvent) (board : Position) where
  -- no line is given with no frame in use, as after all moves were taken back
  pub no_line_without_frames : (half : ℕ) (moves : ArrayVec Shown) → Gives rule problem old new (Line half moves) board 0 → ⊥
  no_line_without_frames half moves g = grind arith

  -- no node is given with no frame in use
  pub no_node_without_frames : (depth half : ℕ) (move : Shown) → Gives rule problem old new (Node depth half move) board 0 → ⊥
  no_node_without_frames depth half move g = grind arith

module _ (rule : RuleSet) (problem : Posed) (walk : Walk) (count : ℕ) (frames : List Frame) (new : List BareEvent) (c : ℕ) (s : Bool)
    (board : Position) (depth : ℕ) where
  among : (paths : List (List Move)) (all : ℕ) (rest : List BareEvent) (bare : BareEvent)
      → map (path_event problem walk.phase) paths ++ total all (eqb all problem.max_solutions) ∷ rest ≡ bare ∷ new → Total c s ≡ event_of rule problem bare
      → s ≡ eqb c problem.max_solutions
  among [] all rest bare l e = grind arith
  among (x ∷ xs) all rest bare l e = grind arith

  -- a total says that the limit ended the phase exactly where its count is the limit
  pub total_says_stopped_at_limit : Gives rule problem (left_of rule problem (Within walk count) frames) new (Total c s) board depth
      → s ≡ eqb c problem.max_solutions
  unfolding left_of
  total_says_stopped_at_limit g = among _ _ _ g.bare g.left g.event_is

  -- no total is given while a path is still to come
  pub no_total_before_the_last_path : (x : List Move) (xs : List (List Move))
      → kept_paths (is_help problem.stipulation.form) (problem.max_solutions - count) (phase_paths rule problem walk.phase frames) ≡ x ∷ xs
      → Gives rule problem (left_of rule problem (Within walk count) frames) new (Total c s) board depth → ⊥
  unfolding left_of
  no_total_before_the_last_path x xs k g = grind arith

module _ (rule : RuleSet) (problem : Posed) (event : Event) (board : Position) (depth : ℕ) where
  -- an event that was given isn't still to come
  pub no_event_stays : (left : List BareEvent) → Gives rule problem left left event board depth → ⊥
  no_event_stays left g = absurd (omega (arith, ap length g.left))

  -- set play is said to be impossible once only
  pub impossible_is_given_once : (old new : List Frame)
      → Gives rule problem (left_of rule problem NotPossible old) (left_of rule problem NotPossible new) event board depth → ⊥
  unfolding left_of
  impossible_is_given_once old new g = no_event_stays _ g

module _ (rule : RuleSet) (problem : Posed) where
  -- each event counts one
  pub one_event_is_counted : (bare : BareEvent) (left : List BareEvent) (before after : ℕ) → IsCountedUpTo rule problem (bare ∷ left) before
      → IsCountedUpTo rule problem left after → after ≡ min (before + 1) (2 ^ 64 - 1)
  one_event_is_counted bare left before after g h = omega (arith, g.counts, h.counts, g.within)

  -- a search before its first event has tried nothing, if no line of moves is walked twice
  pub nothing_is_opened_at_first : (prunes : Bool) (frames : List Frame) (opened : ℕ) → is_walked_once problem ≡ true
      → IsOpened prunes rule problem (Before (first_phase problem)) frames opened → opened ≡ 0
  unfolding least_if untried_at
  nothing_is_opened_at_first prunes frames opened once o = omega (arith, o.most (search rules))

module _ (rule : RuleSet) (mode : Mode) (p : Position) (place before after : ℕ) (rest : List Move) where
  -- with one half-move left no mate after the cursor is skipped
  pub no_mate_is_skipped : GoesTo rule mode 1 p place rest before after
      → filter (is_mating rule p) (moves_after rule p place) ≡ filter (is_mating rule p) rest
  no_mate_is_skipped t = grind (arith, filter-append)

  -- with two no move that some reply mates
  pub no_move_before_a_mate_is_skipped : GoesTo rule mode 2 p place rest before after
      → filter (allows_mate rule p) (moves_after rule p place) ≡ filter (allows_mate rule p) rest
  no_move_before_a_mate_is_skipped t = grind (arith, filter-append)

  -- with two half-moves left, the moves that are skipped are counted, each once
  pub skipped_moves_count_once : before < 2 ^ 64 → GoesTo rule mode 2 p place rest before after
      → after ≡ min (before + (length (moves_after rule p place) - length rest)) (2 ^ 64 - 1)
  skipped_moves_count_once range t = grind (arith, length-append t.over)

  -- with more none is skipped, nor before the last half-move of battle play, nor in play for stalemate
  pub none_is_skipped : (left : ℕ) → (2 < left) ⊎ (((left ≡ 2) × (is_none mode.battle ≡ false)) ⊎ (mode.goal ≡ Stalemate))
      → GoesTo rule mode left p place rest before after → moves_after rule p place ≡ rest
  none_is_skipped left early t = grind arith

-- with one half-move left, the next move, if it mates, is the next solution
pub first_mate_is_next : (rule : RuleSet) (mode : Mode) (p : Position) (place before after : ℕ) (m n : Move) (more rest : List Move)
    → moves_after rule p place ≡ m ∷ more → is_mating rule p m ≡ true → is_mating rule p n ≡ true → GoesTo rule mode 1 p place (n ∷ rest) before after → n ≡ m
first_mate_is_next rule mode p place before after m n more rest here mates too t =
    grind (arith, no_mate_is_skipped rule mode p place before after (n ∷ rest) t)
