-- The command line `pops-tries [--check] [--no-board] [--refutations N] [FILE]`, and the settings of its words (own).
use Rattle.std.specs.Prelude.{◌≡◌, ◌≢◌, ◌⊎◌, ℕ, nat_le, if◌then◌else◌, List, [], codes, true, Option, Some, None, is_some, option_map, option_and_then, string_bytes}
use Rattle.clap.specs.Walk.{Row, Text, first_of}
use Rattle.clap.specs.Simple.{App, new_app, new_rule, with_rule, matches_of}
use Rattle.clap.specs.Faults.{fault_of}
use Rattle.clap.specs.Takes.{takes}
use Rattle.clap.specs.Kinds.{Kinds}
use Rattle.pop_settings.specs.Commands.{flag, is_set, option_with_value}
use Rattle.pop_settings.specs.pops_part.Numbers.{number_in}
use Rattle.pop_settings.specs.declared.arg_fault.ArgFault.{ArgFault}
use Rattle.pop_settings.specs.declared.arg_fault.ArgFault.TheVariants.{Usage, Memory}
use Rattle.pop_settings.specs.declared.pops_tries.chosen.Settings.{Settings}

-- pops-tries [--check] [--no-board] [--refutations N] [FILE]
unfoldable pub command : App
command = with_rule (with_rule (with_rule (with_rule (new_app (codes "pops-tries"))
    (flag (codes "check"))) (flag (codes "no-board"))) (option_with_value (codes "refutations")))
    (new_rule (codes "file"))

-- the greatest number that --refutations takes
abbrev pub most_refutations : ℕ
most_refutations = 200

-- a number of refutations, if it is at most that
abbrev pub up_to_most : ℕ → Option ℕ
up_to_most number = if nat_le number most_refutations then Some number else None

-- the number of refutations that decimal digits state
abbrev pub refutations_in : List ℕ → Option ℕ
refutations_in text = option_and_then up_to_most (number_in text)

-- the greatest number of refutations of a try: 1 without the option
abbrev pub refutations_said : Option Text → Option ℕ
refutations_said None = Some 1
refutations_said (Some text) = refutations_in text

-- the greatest number of refutations of a try, by clap's matches: none if the option's value is no number from 0 to 200
abbrev pub refutations_by : List Row → Option ℕ
refutations_by rows = refutations_said (first_of (codes "refutations") rows)

-- the settings that clap's matches choose
pub record IsChosen (rows : List Row) (s : Settings) : Type 0 where
  pub file : option_map string_bytes s.file ≡ first_of (codes "file") rows
  pub check : s.check ≡ is_set (codes "check") rows
  pub no_board : s.no_board ≡ is_set (codes "no-board") rows
  pub refutations : refutations_by rows ≡ Some s.refutations

-- the settings of a command line, whose first word is the program's name
abbrev pub IsSettings : List Text → Settings → Type 0
IsSettings words = IsChosen (matches_of command words)

-- the fault if clap takes the words but there are no settings: `Usage` if N isn't a number up to the greatest, else
-- `Memory`
abbrev pub fault_by : Option ℕ → ArgFault
fault_by None = Usage
fault_by (Some most) = Memory

-- the kinds of error that clap may return for the words, apart from memory: none if it takes them
abbrev pub refusals : List Text → Kinds
refusals words = fault_of command words

-- words that the command takes, with a right N, fail only for lack of memory
abbrev pub IsMemoryIfTaken : List Text → ArgFault → Type 0
IsMemoryIfTaken words fault = takes command words ≡ true
    → is_some (refutations_by (matches_of command words)) ≡ true → fault ≡ Memory

-- the fault `Usage` comes only if the command refuses the words or N isn't a number up to the greatest
abbrev pub IsUsageIfRefused : List Text → ArgFault → Type 0
IsUsageIfRefused words fault = fault ≡ Usage
    → (refusals words ≢ []) ⊎ (refutations_by (matches_of command words) ≡ None)
