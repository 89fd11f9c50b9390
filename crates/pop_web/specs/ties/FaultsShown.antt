-- What a page is shown of a text's faults (own).
use Rattle.std.specs.Prelude.{ℕ, List, [], Option, Some, false}
use Rattle.pop_run.specs.declared.status.Status.{Status}
use Rattle.pop_faults.specs.ties.FaultRuns.{ListsFaults}
use Rattle.pop_web.specs.Page.{Fills, status_number}

-- The list of the text's faults is shown, and the result is the number of the text's status. Or the bytes are a
-- beginning of the list, as many bytes as fit and not all, and the result is the number of a failed output.
abbrev pub ShowsFaults : List ℕ → List ℕ → ℕ → Type 0
ShowsFaults text shown answer = (left : Option (List ℕ)) × Fills Status status_number
    (λ bytes cut ending. ListsFaults text left false (Some []) (Some bytes) cut ending)
    shown answer
