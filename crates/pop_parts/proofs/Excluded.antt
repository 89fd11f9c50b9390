-- What the clauses of lists and parts exclude: text of parts that don't exist; a failed sink reported as
-- another end, or another end as a failed sink; words used after the requested item; parts numbered from
-- 0; and solutions that don't begin with the part's moves.
use Rattle.pop_parts.proofs.Words.{Appends, Bool, Entry, Faulty, Input, List, Lists, Move, None, Option, Phase, Posed, ReadsItems, RuleSet, Shows, Some, Sound, Word, [], ap, arith, begins_path, begins_so, closings, codes, entries_in, entry_numbered, false, list_any, outcome_at, part_numbered, parts, refl, slice_get, status_of, reports_device_failure, text_at, text_in, true, ℕ, ◌∷◌, ◌≡◌, ◌≢◌, ◌≤◌}
unfoldable use Rattle.pop_input.specs.Names.{command_of}
use Rattle.pop_run.specs.declared.status.Status.TheVariants.{OutputFailed as ListCut}
use Rattle.chess_core.specs.Move.{same_move}
use Rattle.pop_parts.specs.declared.request.PartRequest.{PartRequest}
use Rattle.pop_parts.specs.declared.request.Outcome.{Outcome}
use Rattle.pop_parts.specs.declared.request.Outcome.TheVariants.{OutputFailed, Shown}

text_refused : (request : PartRequest) (failed : Bool) (entry : Option Entry) → outcome_at request failed entry ≢ Shown → text_at request entry ≡ []
unfolding text_in
text_refused request failed None refused = refl
text_refused request failed (Some (Faulty fault)) refused = refl
text_refused request failed (Some (Sound posed)) refused = grind (arith, refused)

-- where the parts asked for are refused nothing is written
pub refused_writes_nothing : (request : PartRequest) (input : Input) (before now : Option (List ℕ)) (answer : Outcome)
    → Shows request input before now false answer
    → answer ≢ Shown → Appends before now []
refused_writes_nothing request input before now answer (written, reported) refused =
    let items = entries_in input in
    rw (text_refused request (list_any reports_device_failure items) (entry_numbered items request.item) (rw reported at refused)) at written

not_cut : (request : PartRequest) (failed : Bool) (entry : Option Entry) → OutputFailed ≡ outcome_at request failed entry → ⊥
not_cut request failed entry reported = grind (arith, reported)

-- where the sink failed the answer says so, and only there
pub failed_sink_is_reported : (request : PartRequest) (input : Input) (before now : Option (List ℕ)) (answer : Outcome)
    → Shows request input before now true answer
    → answer ≡ OutputFailed
failed_sink_is_reported request input before now answer (begun, reported) = reported

-- a sink that took all isn't said to have failed
pub sound_sink_is_reported : (request : PartRequest) (input : Input) (before now : Option (List ℕ)) → Shows request input before now false OutputFailed → ⊥
sound_sink_is_reported request input before now (written, reported) =
    let items = entries_in input in not_cut request (list_any reports_device_failure items) (entry_numbered items request.item) reported

-- a sink that took a whole list isn't said to have failed
pub sound_sink_of_a_list_is_reported : (depth : ℕ) (input : Input) (before now : Option (List ℕ)) → Lists depth input before now false ListCut → ⊥
unfolding status_of
sound_sink_of_a_list_is_reported depth input before now (written, reported) = grind arith

-- where item 1 is asked for the words of a second one aren't used
pub no_second_item : (input : Input) (taken : List ℕ) (line next : ℕ) (r : ReadsItems 1 input taken)
    → r.reads.tokens ≡ Word line (codes "NextProblem") ∷ Word next (codes "EndProblem") ∷ [] → ⊥
unfolding command_of
no_second_item input taken line next r are =
    let few : closings r.reads.tokens ≤ 1 = r.few (omega arith) in
    let two : closings (Word line (codes "NextProblem") ∷ Word next (codes "EndProblem") ∷ []) ≡ 2 = refl in
    omega (arith, rw are at few, two)

module _ (rule : RuleSet) (problem : Posed) (phase : Phase) (depth : ℕ) where
  -- the parts of a phase are counted from 1: none is numbered 0
  pub no_part_is_numbered_0 : part_numbered rule problem phase depth 0 ≡ None
  no_part_is_numbered_0 = refl

  -- the first part is number 1, so the last has the number of all parts
  pub first_part_is_numbered_1 : (front : List Move) (fronts : List (List Move)) → parts rule problem phase depth ≡ front ∷ fronts
      → part_numbered rule problem phase depth 1 ≡ Some front
  first_part_is_numbered_1 front fronts are = ap (λ all. slice_get all 0) are

-- a solution that begins with another move than the part's first isn't the part's
pub no_other_first_move : (m n : Move) (beginning path : List Move) (paths : List (List Move)) → same_move m n ≡ false
    → begins_so (m ∷ beginning) ((n ∷ path) ∷ paths) ≡ false
unfolding begins_path
no_other_first_move m n beginning path paths other = rw other refl

-- a solution that is shorter than the part's moves isn't the part's
pub no_shorter_path : (m : Move) (beginning : List Move) (paths : List (List Move)) → begins_so (m ∷ beginning) ([] ∷ paths) ≡ false
unfolding begins_path
no_shorter_path m beginning paths = refl
