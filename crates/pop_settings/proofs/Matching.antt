-- What clap's contracts say of the commands of this crate.
use Rattle.pop_settings.proofs.Basics.{IfOk-weaker, List, Text, is_simple, matches_of, takes, true, ◌≡◌}
use Rattle.std.proofs.Common.{Result, subst}
use Rattle.std.specs.Prelude.{IfErr, IfOk}
use Rattle.clap.specs.Faults.{fault_of, is_simple_and_free}
use Rattle.clap.specs.Kinds.{FailsBy}
use Rattle.clap.specs.Matches.{found_of}
use Rattle.clap.specs.Simple.{App, HasMatchesOf}
use Rattle.clap.specs.Values.{kind_of}
use Rattle.clap.specs.Walk.{rows_of}
use Rattle.clap.specs.declared.error.Error.{Error}
use Rattle.clap.specs.declared.error.kind.ErrorKind.TheVariants.{OutOfMemory}
use Rattle.clap.specs.declared.parser.matches.ArgMatches.{ArgMatches}

module _ (r : Result ArgMatches Error) (given command : App) (words : List Text) where
  -- what clap found are the matches that the command defines
  pub matched_rows : given ≡ command → is_simple command ≡ true → IfOk r (HasMatchesOf given words)
      → IfOk r (λ m. rows_of (found_of m) ≡ matches_of command words)
  matched_rows is simple h = IfOk-weaker r _ _ (λ m has. (has simple).0) (subst (λ a. IfOk r (HasMatchesOf a words)) is h)

  -- words that the command takes fail only for lack of memory
  pub matched_memory : given ≡ command → IfErr r (λ e. takes given words ≡ true → kind_of e ≡ OutOfMemory)
      → IfErr r (λ e. takes command words ≡ true → kind_of e ≡ OutOfMemory)
  matched_memory is h = subst (λ a. IfErr r (λ e. takes a words ≡ true → kind_of e ≡ OutOfMemory)) is h

  -- clap fails with a kind of error that the command's definition allows for these words
  pub matched_kinds : given ≡ command → is_simple_and_free command ≡ true → (is_simple_and_free given ≡ true → FailsBy (fault_of given words) r)
      → FailsBy (fault_of command words) r
  matched_kinds is free h = subst (λ a. is_simple_and_free a ≡ true → FailsBy (fault_of a words) r) is h free
