-- The command line `pops [--check] [--no-board] [FILE]`, and the settings of its words (own).
use Rattle.std.specs.Prelude.{◌≡◌, ◌≢◌, List, [], codes, true, option_map, string_bytes}
use Rattle.clap.specs.Walk.{Row, Rule, Text, first_of}
use Rattle.clap.specs.Simple.{App, new_app, new_rule, with_rule, matches_of}
use Rattle.clap.specs.Faults.{fault_of}
use Rattle.clap.specs.Takes.{takes}
use Rattle.clap.specs.Kinds.{Kinds}
use Rattle.run_settings.specs.declared.Settings.{Settings}
use Rattle.pop_settings.specs.Commands.{flag, is_set}
use Rattle.pop_settings.specs.declared.arg_fault.ArgFault.{ArgFault}
use Rattle.pop_settings.specs.declared.arg_fault.ArgFault.TheVariants.{Usage, Memory}

-- the option --check
abbrev pub check : Rule
check = flag (codes "check")

-- the option --no-board
abbrev pub no_board : Rule
no_board = flag (codes "no-board")

-- pops [--check] [--no-board] [FILE]
abbrev pub command : App
command = with_rule (with_rule (with_rule (new_app (codes "pops")) check) no_board)
    (new_rule (codes "file"))

-- the settings that clap's matches choose
pub record IsChosen (rows : List Row) (s : Settings) : Type 0 where
  pub file : option_map string_bytes s.file ≡ first_of (codes "file") rows
  pub check : s.check ≡ is_set (codes "check") rows
  pub no_board : s.no_board ≡ is_set (codes "no-board") rows

-- the settings of a command line, whose first word is the program's name
abbrev pub IsSettings : List Text → Settings → Type 0
IsSettings words = IsChosen (matches_of command words)

-- the kinds of error that clap may return for the words, apart from memory: none if it takes them
abbrev pub refusals : List Text → Kinds
refusals words = fault_of command words

-- words that the command takes fail only for lack of memory
abbrev pub IsMemoryIfTaken : List Text → ArgFault → Type 0
IsMemoryIfTaken words fault = takes command words ≡ true → fault ≡ Memory

-- the fault `Usage` comes only if the command refuses the words
abbrev pub IsUsageIfRefused : List Text → ArgFault → Type 0
IsUsageIfRefused words fault = fault ≡ Usage → refusals words ≢ []
