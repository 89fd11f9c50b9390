-- How a search for tries begins, and what a call of `next` returns.
use Rattle.pop_tries.proofs.Words.{BareTryEvent, Battle, Bool, IsSound, List, None, Option, Posed, Position, RuleSet, Some, [], arith, battle_of, false, false≢true, inl, nat_tests, play_start, refl, rules, true, ℕ, ◌∙◌, ◌∷◌, ◌≡◌, ◌≤◌, ◌<◌}
unfoldable use Rattle.pop_tries.proofs.Words.{try_events}
use Rattle.std.specs.Prelude.{MatchOption, is_some}
use Rattle.pop_battle.specs.ties.Frames.{Frame}
use Rattle.pop_stipulation.specs.Stipulations.{half_moves, may_have}
use Rattle.pop_stipulation.specs.declared.stipulation.Form.{Form}
use Rattle.pop_tries.specs.Events.{events_by}
use Rattle.pop_tries.specs.Shown.{try_event_of}
use Rattle.pop_events.specs.declared.try_event.TryEvent.{TryEvent}
use Rattle.pop_tries.specs.declared.progress.Course.{Course}
use Rattle.pop_tries.specs.declared.progress.Task.{Task}
use Rattle.pop_tries.specs.declared.progress.TheConstants.{MOST_REFUTATIONS}
use Rattle.pop_tries.specs.declared.progress.TriesProgress.{TriesProgress}
use Rattle.pop_tries.proofs.Candidates.{none_are_kept}
use Rattle.pop_tries.specs.ties.Searching.{Emits, IsOnCourse, contest_of, course_by, first_course, is_over, left_on, task_of}
unfoldable use Rattle.pop_tries.specs.ties.Searching.{HoldsAt, left_of}

-- a battle has a move
some_move : (form : Form) (battle : Battle) (n : ℕ) → battle_of form ≡ Some battle → may_have form n ≡ true → 1 ≤ n
some_move form battle n e r = grind (arith, nat_tests)

module _ (rule : RuleSet) (problem : Posed) (most : ℕ) (course : Course) (whole : course ≡ first_course problem) (items : List Frame)
    (none : items ≡ []) where
  -- at first all events are to come
  pub all_to_come : left_on rule problem most course items ≡ try_events rule problem most
  unfolding left_of try_events
  all_to_come = rw (whole, none) (by (battle_of problem.stipulation.form) problem.set_play refl)
    where
      by : (p : Option Battle) (set_play : Bool) → problem.set_play ≡ set_play
          → left_on rule problem most (course_by p set_play) [] ≡ events_by p rule problem most
      by None set_play e = refl
      by (Some b) true e = rw e refl
      by (Some b) false e = rw e refl

  -- at first the board has the play's first position, and no frame is in use
  pub on_course : IsSound problem → most ≤ MOST_REFUTATIONS → (room : ℕ) → half_moves problem.stipulation < room → (board : Position) → board ≡ play_start problem
      → IsOnCourse rule problem most course items board room
  unfolding HoldsAt
  on_course s few room fits board at = rw (whole, none, at) (by (battle_of problem.stipulation.form) problem.set_play refl)
    where
      by : (p : Option Battle) (set_play : Bool) → battle_of problem.stipulation.form ≡ p
          → IsOnCourse rule problem most (course_by p set_play) [] (play_start problem) room
      by None set_play e = tt
      by (Some b) true e = record {
        is_task = record { sound = s; few = few };
        room = fits;
        holds = (record { fought = e; some = some_move _ _ _ e s.range }, record { board_at = refl; none = refl });
      }
      by (Some b) false e = record {
        is_task = record { sound = s; few = few };
        room = fits;
        holds = (
          record { fought = e; some = some_move _ _ _ e s.range },
          record { board_at = refl; none = refl },
          tt,
          (λ m c t. inl refl, none_are_kept rule (contest_of (task_of problem most b)) most (play_start problem)),
        );
      }

-- after a step with an event, that event was the next one to come
pub emitted : (rule : RuleSet) (task : Task) (start old new : List BareTryEvent) (event : Option TryEvent) → start ≡ old → Emits rule task old new event
    → is_some event ≡ true
    → MatchOption event ((start ≡ []) × (new ≡ [])) (λ shown. (bare : BareTryEvent) × (start ≡ bare ∷ new) × (shown ≡ try_event_of rule task.problem bare))
emitted rule _ start old new None same e s = absurd (false≢true s)
emitted rule _ start old new (Some shown) same e s = (e.0, same ∙ e.1, e.2)

-- nothing is left to come
pub over_empty : (rule : RuleSet) (task : Task) (progress : TriesProgress) (items : List Frame) → is_over progress ≡ true
    → left_of rule task progress items ≡ []
unfolding left_of
over_empty rule task progress items e = search rules
