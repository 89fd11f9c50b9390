-- What the clauses of a session and a run exclude: reporting a sound problem as faulty or a fault as sound, another status after the sink failed, and
-- another call of a failed device.
use Rattle.pop_run.proofs.Basics.{Bool, Choice, Entry, Input, ItemText, List, Ok, Option, OutputFailed, Problem, Reads, RunState, Runs, Some, ReaderState, Steps, [], ap, append_cancel_right, arith, false, is_faulty, not, status_of, sym, true, ℕ, ◌+◌, ◌∙◌, ◌∷◌, ◌≡◌}
use Rattle.pop_input.proofs.Taking.{some_rest}
use Rattle.pop_input.specs.Blocks.{Faulty as FaultyEntry, Sound as SoundEntry}
use Rattle.pop_input.specs.Posed.{Posed}
use Rattle.pop_input.specs.declared.item.Fault.{Fault}
use Rattle.pop_run.specs.Run.{FailsOnce}
use Rattle.pop_run.specs.declared.status.Status.{Status}

-- one item is read, and no other item
same_item : (old new : ReaderState) (had left : List ℕ) (entry other : Entry) → Reads old new (Some had) (Some left) (entry ∷ [])
    → Reads old new (Some had) (Some left) (other ∷ []) → entry ≡ other
same_item old new had left entry other p q = grind (arith, append_cancel_right p.bytes q.bytes left (sym p.taken ∙ q.taken), some_rest new.at.end)

-- if a sound problem is read, a step says that it is sound
pub sound_is_reported : {A : Type 0} (text : A → ItemText) (old new : RunState A) (had left : List ℕ) (before now : Option (List ℕ)) (sound : Bool)
    (posed : Posed)
    → Reads old.at new.at (Some had) (Some left) (SoundEntry posed ∷ []) → Steps text old new (Some had) (Some left) before now (Ok (Problem sound)) → sound
    ≡ true
sound_is_reported text old new had left before now sound posed reads (entry, p, written, runs, reported) =
    reported ∙ ap (λ e. not (is_faulty e)) (same_item old.at new.at had left entry (SoundEntry posed) p.reads reads)

-- if a fault is read, a step says that it isn't sound
pub fault_is_reported : {A : Type 0} (text : A → ItemText) (old new : RunState A) (had left : List ℕ) (before now : Option (List ℕ)) (sound : Bool)
    (fault : Fault)
    → Reads old.at new.at (Some had) (Some left) (FaultyEntry fault ∷ []) → Steps text old new (Some had) (Some left) before now (Ok (Problem sound)) → sound
    ≡ false
fault_is_reported text old new had left before now sound fault reads (entry, p, written, runs, reported) =
    reported ∙ ap (λ e. not (is_faulty e)) (same_item old.at new.at had left entry (FaultyEntry fault) p.reads reads)

-- if the sink failed, the status is `OutputFailed`
pub failed_sink_is_reported : (choice : Choice) (input : Input) (before now : Option (List ℕ)) (answer : Status) → Runs choice input before now true answer
    → answer ≡ OutputFailed
failed_sink_is_reported choice input before now answer (begun, reported) = reported

-- if the sink didn't fail, the status isn't `OutputFailed`
pub sound_sink_is_reported : (choice : Choice) (input : Input) (before now : Option (List ℕ)) → Runs choice input before now false OutputFailed → ⊥
unfolding status_of
sound_sink_is_reported choice input before now (written, reported) = grind arith

-- a device that failed isn't called again if it would fail again
pub no_second_failure : (before : ℕ) → FailsOnce before (before + 2) → ⊥
no_second_failure before once = omega arith
