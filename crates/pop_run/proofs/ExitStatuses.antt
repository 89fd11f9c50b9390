-- What the clause of the exit status excludes: reporting a failed output as another end, and one status for different ends.
use Rattle.std.proofs.Common.{Some, false, refl, true, ℕ, ◌≡◌, ◌≢◌}
use Rattle.pop_run.specs.declared.status.Status.{Status}
use Rattle.pop_run.specs.declared.status.Status.TheVariants.{Sound, Faulty, InputFailed, OutputFailed}
use Rattle.pop_run.specs.ExitStatus.{exit_status_of}

-- a run whose output or last flush failed has no status of its own
pub no_status_of_a_failed_output : (s : Status) (n : ℕ) → (exit_status_of s false ≢ Some n) × (exit_status_of OutputFailed true ≢ Some n)
no_status_of_a_failed_output s n = ((λ e. cc), (λ e. cc))

-- the statuses of the other runs
pub statuses : (exit_status_of Sound true ≡ Some 0) × (exit_status_of Faulty true ≡ Some 1) × (exit_status_of InputFailed true ≡ Some 3)
statuses = (refl, refl, refl)
