-- The command lines of `pops-part`, and the settings of their words (own).
use Rattle.std.specs.Prelude.{◌≡◌, ◌≢◌, ◌⊎◌, ◌||◌, ◌≤◌, ℕ, Bool, true, false, if◌then◌else◌, List, [], codes, Option, Some, None, is_some, option_map, option_and_then, string_bytes}
use Rattle.clap.specs.Walk.{Row, Text, first_of}
use Rattle.clap.specs.Simple.{App, new_app, new_rule, with_rule, matches_of}
use Rattle.clap.specs.Faults.{fault_of}
use Rattle.clap.specs.Takes.{takes}
use Rattle.clap.specs.Kinds.{Kinds}
use Rattle.pop_settings.specs.Commands.{flag, is_set, option_with_value}
use Rattle.pop_settings.specs.pops_part.Numbers.{depth_in, number_in, phase_in, range_in}
use Rattle.pop_settings.specs.declared.arg_fault.ArgFault.{ArgFault}
use Rattle.pop_settings.specs.declared.arg_fault.ArgFault.TheVariants.{Usage, Memory}
use Rattle.pop_settings.specs.declared.pops_part.wanted.PhaseName.{PhaseName}
use Rattle.pop_settings.specs.declared.pops_part.wanted.Settings.{Settings}
use Rattle.pop_settings.specs.declared.pops_part.wanted.Wanted.{Wanted}
use Rattle.pop_settings.specs.declared.pops_part.wanted.Wanted.TheVariants.{List as ListOf, Parts, Faults}
use Rattle.pop_settings.specs.declared.pops_part.values.Range.{Range}

-- pops-part [--list] [--faults] [--depth D] [--item I] [--phase P] [--part A[..B]] [FILE]
unfoldable pub command : App
command = with_rule (with_rule (with_rule (with_rule (with_rule (with_rule (with_rule
    (new_app (codes "pops-part")) (flag (codes "list"))) (flag (codes "faults")))
    (option_with_value (codes "depth")))
    (option_with_value (codes "item")))
    (option_with_value (codes "phase"))) (option_with_value (codes "part")))
    (new_rule (codes "file"))

-- whether an option is there
abbrev pub is_present : Text → List Row → Bool
is_present name rows = is_some (first_of name rows)

-- whether an option that names parts is there
abbrev pub has_others : List Row → Bool
has_others rows = is_present (codes "item") rows
    || (is_present (codes "phase") rows || is_present (codes "part") rows)

-- how many first moves a part of help play fixes: 1 without the option
abbrev pub depth_said : Option Text → Option ℕ
depth_said None = Some 1
depth_said (Some text) = depth_in text

-- the list, which excludes the options that name parts
abbrev pub list_wanted : Bool → Option ℕ → Option Wanted
list_wanted true depth = None
list_wanted false depth = option_map ListOf depth

-- the parts that the options name, if each option is there and readable
abbrev pub parts_wanted : Option ℕ → Option PhaseName → Option Range → Option ℕ → Option Wanted
parts_wanted (Some item) (Some phase) (Some range) (Some depth) = Some (Parts (record {
  item = item;
  phase = phase;
  first = range.first;
  last = range.last;
  depth = depth;
}))
parts_wanted _ _ _ _ = None

-- what the options about parts want: none if they have neither form
unfoldable pub parts_by : List Row → Option Wanted
parts_by rows = if is_set (codes "list") rows
    then list_wanted (has_others rows) (depth_said (first_of (codes "depth") rows))
    else parts_wanted (option_and_then number_in (first_of (codes "item") rows))
    (option_and_then phase_in (first_of (codes "phase") rows))
    (option_and_then range_in (first_of (codes "part") rows))
    (depth_said (first_of (codes "depth") rows))

-- whether an option about parts is there
abbrev pub has_options : List Row → Bool
has_options rows = is_set (codes "list") rows
    || (is_present (codes "depth") rows || has_others rows)

-- the list of faults, which excludes all other options
abbrev pub faults_wanted : Bool → Option Wanted
faults_wanted true = None
faults_wanted false = Some Faults

-- what a command line wants, by clap's matches: none if it has none of the forms
unfoldable pub wanted_by : List Row → Option Wanted
wanted_by rows = if is_set (codes "faults") rows then faults_wanted (has_options rows)
    else parts_by rows

-- the settings that clap's matches choose
pub record IsChosen (rows : List Row) (s : Settings) : Type 0 where
  pub file : option_map string_bytes s.file ≡ first_of (codes "file") rows
  pub wanted : wanted_by rows ≡ Some s.wanted

-- the settings of a command line, whose first word is the program's name
abbrev pub IsSettings : List Text → Settings → Type 0
IsSettings words = IsChosen (matches_of command words)

-- the fault if clap takes the words but there are no settings: `Usage` if they have none of the forms, else
-- `Memory`
abbrev pub fault_by : Option Wanted → ArgFault
fault_by None = Usage
fault_by (Some wanted) = Memory

-- the kinds of error that clap may return for the words, apart from memory: none if it takes them
abbrev pub refusals : List Text → Kinds
refusals words = fault_of command words

-- words that the command takes and that have one of its forms fail only for lack of memory
abbrev pub IsMemoryIfTaken : List Text → ArgFault → Type 0
IsMemoryIfTaken words fault = takes command words ≡ true
    → is_some (wanted_by (matches_of command words)) ≡ true → fault ≡ Memory

-- the fault `Usage` comes only if the command refuses the words or they have none of the forms
abbrev pub IsUsageIfRefused : List Text → ArgFault → Type 0
IsUsageIfRefused words fault = fault ≡ Usage
    → (refusals words ≢ []) ⊎ (wanted_by (matches_of command words) ≡ None)

-- a part of help play fixes at least one move
abbrev pub HasDepth : Wanted → Type 0
HasDepth (ListOf depth) = 1 ≤ depth
HasDepth (Parts request) = 1 ≤ request.depth
HasDepth Faults = Unit {0}
