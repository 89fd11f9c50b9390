-- What `list_parts` and `show_parts` do (own).
use Rattle.std.specs.Prelude.{◌≡◌, ◌≤◌, ℕ, List, Option, Bool, true, false}
use Rattle.pop_text.specs.Bytes.{Appends, Begins}
use Rattle.pop_text.specs.Words.{Input}
use Rattle.pop_run.specs.Run.{ReadsUpTo, RunsBy, closings}
use Rattle.pop_run.specs.declared.status.Status.{Status}
use Rattle.pop_parts.specs.Parts.{outcome_of, parts_line, text_of}
use Rattle.pop_parts.specs.declared.request.PartRequest.{PartRequest}
use Rattle.pop_parts.specs.declared.request.Outcome.{Outcome}
use Rattle.pop_parts.specs.declared.request.Outcome.TheVariants.{OutputFailed}

-- The list of the input was written, and its status returned; if the sink failed, a beginning of the list,
-- not all of it, was written.
abbrev pub Lists : ℕ → Input → Option (List ℕ) → Option (List ℕ) → Bool → Status → Type 0
Lists depth = RunsBy (parts_line depth)

-- The text of the requested parts was written, and the outcome returned; if the sink failed, a beginning of
-- the text, not all of it, was written.
abbrev pub Shows : PartRequest → Input → Option (List ℕ) → Option (List ℕ) → Bool → Outcome → Type 0
Shows request input before now false answer = Appends before now (text_of request input)
    × (answer ≡ outcome_of request input)
Shows request input before now true answer = Begins before now (text_of request input)
    × (answer ≡ OutputFailed)

-- A call that took these bytes to find item `number` read as a run does, and the words that it took close
-- at most `number` items. No item has number 0.
pub record ReadsItems (number : ℕ) (input : Input) (taken : List ℕ) : Type 0 where
  pub reads : ReadsUpTo input taken
  pub few : 1 ≤ number → closings reads.tokens ≤ number
