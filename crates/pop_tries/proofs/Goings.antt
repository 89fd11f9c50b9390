-- What a step of a search for tries leaves, with an event or without.
use Rattle.pop_tries.proofs.Words.{BareTryEvent, List, Move, Position, RuleSet, [], after_well_formed, ap, false, false≢true, may_be_made, play_start, refl, sym, true, ℕ, ◌+◌, ◌<◌, ◌∙◌, ◌∷◌, ◌≡◌}
use Rattle.std.specs.Prelude.{None, Option, Some, is_some}
use Rattle.std.proofs.lemmas.Option.{none-some}
use Rattle.chess_core.specs.Undo.{Undo}
use Rattle.chess_rules.specs.Legal.{is_legal}
use Rattle.chess_rules.specs.Play.{undo_of}
use Rattle.pop_battle.specs.ties.Frames.{Frame}
use Rattle.pop_tries.specs.Shown.{try_event_of}
use Rattle.pop_events.specs.declared.try_event.TryEvent.{TryEvent}
use Rattle.pop_tries.specs.declared.kept_tries.Candidates.{Candidates}
use Rattle.pop_tries.specs.declared.first_moves.Group.{Group}
use Rattle.pop_tries.specs.declared.refuting.Refuting.{Refuting}
use Rattle.pop_tries.specs.declared.progress.First.{First}
use Rattle.pop_tries.specs.declared.progress.Firsts.{Firsts}
use Rattle.pop_tries.specs.declared.progress.Task.{Task}
use Rattle.pop_tries.specs.declared.progress.TriesProgress.{TriesProgress}
use Rattle.pop_tries.specs.declared.progress.TriesProgress.TheVariants.{Beginning, Faced, FirstMove}
use Rattle.pop_tries.specs.ties.Contests.{IsContest}
use Rattle.pop_tries.specs.ties.FirstMoves.{AreRefuting}
use Rattle.pop_tries.specs.ties.Searching.{Emits, GoesWith, IsPlaced, IsTask, after_first, HoldCandidates, beginning_of, contest_of, ending_of, first_event, firsts_after, group_left, is_stopped, rank}
unfoldable use Rattle.pop_tries.specs.ties.Searching.{HoldsAt, left_of}
use Rattle.pop_tries.proofs.Steps.{group_begins, next_first, still_few, still_limited}

module _ (rule : RuleSet) (task : Task) (old new : TriesProgress) (was items : List Frame) (board : Position)
    (holds : HoldsAt rule task new items board) where
  -- a step with an event
  pub with_event : (shown : TryEvent) (bare : BareTryEvent) → left_of rule task old was ≡ bare ∷ left_of rule task new items
      → shown ≡ try_event_of rule task.problem bare → GoesWith rule task old was new items board (Some shown)
  with_event shown bare left e = record {
    holds = holds;
    emits = (bare, left, e);
    falls = λ n. absurd (none-some shown (sym n));
  }

  -- a step without an event
  pub without_event : left_of rule task old was ≡ left_of rule task new items → rank new < rank old → GoesWith rule task old was new items board None
  without_event left less = record { holds = holds; emits = left; falls = λ _. less }

-- a group begins
pub group_comes : (rule : RuleSet) (task : Task) (group : Group) (before candidates : Candidates) (place : ℕ) → place ≡ 0
    → (was items : List Frame) → left_of rule task (Beginning group before) was
    ≡ beginning_of group ∷ left_of rule task (FirstMove (record { group = group; place = place; count = 0; candidates = candidates })) items
unfolding left_of
group_comes rule task group before candidates place e was items = rw e (group_begins rule task group)

-- a group ends
pub group_ended : (rule : RuleSet) (task : Task) (firsts : Firsts) (new : TriesProgress) (was items : List Frame) (board : Position)
    (event : Option TryEvent) → HoldsAt rule task new items board
    → Emits rule task (ending_of rule task firsts.group firsts.count) (left_of rule task new items) event → is_some event ≡ true
    → group_left rule task firsts ≡ ending_of rule task firsts.group firsts.count → GoesWith rule task (FirstMove firsts) was new items board event
unfolding left_of
group_ended rule task firsts new was items board event h e s l = record {
  holds = h;
  emits = rw l e;
  falls = λ n. absurd (false≢true (sym (ap is_some n) ∙ s));
}

-- a first move begins
module _ (rule : RuleSet) (task : Task) (fit : IsContest (contest_of task)) (s : IsTask task) (firsts : Firsts)
    (placed : IsPlaced rule task firsts) (next : ℕ) (candidates : Candidates) (m : Move) (undo : Undo) (refuting : Refuting)
    (found : firsts_after rule task firsts.group firsts.place ≡ m ∷ firsts_after rule task firsts.group next)
    (open_yet : is_stopped task.problem firsts.group firsts.count ≡ false) where
  abbrev first : First
  first = record { firsts = record { group = firsts.group; place = next; count = firsts.count + 1; candidates = candidates }; by = m; undo = undo; threat = None; refuting = refuting }

  pub first_comes : (was items : List Frame) → left_of rule task (FirstMove firsts) was ≡ first_event firsts.group m ∷ left_of rule task (Faced first) items
  unfolding left_of
  first_comes was items = next_first rule task firsts.group firsts.place next firsts.count m found placed.limited open_yet undo None refuting

  pub first_holds : HoldCandidates rule task firsts.group candidates next → is_legal rule (play_start task.problem) m ≡ true → undo ≡ undo_of rule (play_start task.problem) m
      → AreRefuting rule (contest_of task) (after_first rule task m) refuting
      → (items : List Frame) (board : Position) → items ≡ [] → board ≡ after_first rule task m → HoldsAt rule task (Faced first) items board
  unfolding HoldsAt
  first_holds noted legal back held items board none at = (
    fit,
    record { board_at = at; none = none },
    record {
      came = record { sound = s.sound.well_formed; legal = legal; led = refl; undone = back };
      sound = after_well_formed rule (play_start task.problem) m s.sound.well_formed (may_be_made rule (play_start task.problem) m legal);
      refuted = held;
      placed = record {
        asked = placed.asked;
        noted = noted;
        counted = still_few rule task firsts.group firsts.place next firsts.count m found placed.limited open_yet placed.counted;
        limited = still_limited rule task firsts.group firsts.count placed.limited open_yet;
      };
    },
  )
