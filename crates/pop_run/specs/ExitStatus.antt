-- The exit status of a program that reports an input (own).
use Rattle.std.specs.Prelude.{ℕ, Bool, false, true, None, Option, Some}
use Rattle.pop_run.specs.declared.status.Status.{Status}
use Rattle.pop_run.specs.declared.status.Status.TheVariants.{Sound, Faulty, InputFailed, OutputFailed}

-- the exit status of a program whose run ends with this status, with or without a successful last flush; none if a write
-- or the flush failed, since the program then reports that failure
abbrev pub exit_status_of : Status → Bool → Option ℕ
exit_status_of status false = None
exit_status_of Sound true = Some 0
exit_status_of Faulty true = Some 1
exit_status_of InputFailed true = Some 3
exit_status_of OutputFailed true = None
