-- What the clauses of the list exclude: a failed sink reported as another end, or another end as a failed sink.
use Rattle.std.proofs.Common.{Bool, List, Option, arith, false, true, ℕ, ◌≡◌}
unfoldable use Rattle.pop_run.specs.Report.{status_of}
use Rattle.pop_run.specs.declared.status.Status.{Status}
use Rattle.pop_run.specs.declared.status.Status.TheVariants.{OutputFailed}
use Rattle.pop_faults.specs.ties.FaultRuns.{ListsFaults}

module _ (had : List ℕ) (left : Option (List ℕ)) (failed : Bool) (before now : Option (List ℕ)) where
  -- where the sink failed the answer says so
  pub failed_sink_is_reported : (answer : Status) → ListsFaults had left failed before now true answer → answer ≡ OutputFailed
  failed_sink_is_reported answer lists = lists.lists.3

  -- a sink that took the whole list isn't said to have failed
  pub sound_sink_is_reported : ListsFaults had left failed before now false OutputFailed → ⊥
  unfolding status_of
  sound_sink_is_reported lists = let reported = lists.lists.2 in grind arith
