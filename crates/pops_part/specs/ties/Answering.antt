-- What a run of `pops-part` does (own).
use Rattle.std.specs.Prelude.{◌≡◌, ℕ, List, Option, Bool}
use Rattle.pop_run.specs.Report.{status}
use Rattle.pop_run.specs.Run.{input_met}
use Rattle.pop_run.specs.declared.status.Status.{Status}
use Rattle.pop_faults.specs.ties.FaultRuns.{ListsFaults}
use Rattle.pop_parts.specs.Parts.{list_text, outcome_of, text_of}
use Rattle.pop_settings.specs.declared.pops_part.wanted.Wanted.{Wanted}
use Rattle.pop_settings.specs.declared.pops_part.wanted.Wanted.TheVariants.{List as ListOf, Parts, Faults}
use Rattle.pops_part.specs.ExitStatus.{ending_of_list, ending_of_parts}
use Rattle.pops_part.specs.Runs.{WritesText, request_of}
use Rattle.pops_part.specs.declared.program.Ending.{Ending}

-- The list of faults is written, and the run ends in the way of its status.
pub record AnswersFaults (had : List ℕ) (left : Option (List ℕ)) (failed : Bool)
    (before now : Option (List ℕ)) (cut : Bool) (ending : Ending) : Type 0 where
  pub status : Status
  pub lists : ListsFaults had left failed before now cut status
  pub ends : ending ≡ ending_of_list status

-- A run writes what is wanted of the input that it meets, and returns how it ends: the list of the input's parts, the
-- text of the parts that are named, or the list of its faults. If the sink fails, it writes a beginning of that and
-- returns `OutputFailed`.
abbrev pub Answers : Wanted → List ℕ → Option (List ℕ) → Bool → Option (List ℕ) → Option (List ℕ)
    → Bool → Ending → Type 0
Answers (ListOf depth) had left failed before now cut ending =
    WritesText (list_text depth (input_met failed had left))
    (ending_of_list (status (input_met failed had left))) before now cut ending
Answers (Parts named) had left failed before now cut ending =
    WritesText (text_of (request_of named) (input_met failed had left))
    (ending_of_parts (outcome_of (request_of named) (input_met failed had left)))
    before now cut ending
Answers Faults had left failed before now cut ending =
    AnswersFaults had left failed before now cut ending
