-- What the clauses of the settings exclude: settings of other words, flags that aren't there, and refusing words that
-- are right.
use Rattle.pop_settings.proofs.Basics.{List, None, Some, Text, [], codes, false, inl, inr, matches_of, refl, sym, takes, true, ◌∙◌, ◌≡◌}
use Rattle.std.specs.Prelude.{is_some, ◌∷◌}
use Rattle.clap.specs.Walk.{Row, first_of}
use Rattle.clap.specs.declared.builder.value_parser.Reading.TheVariants.{AsWritten}
use Rattle.run_settings.specs.declared.Settings.{Settings as PopsSettings}
use Rattle.pop_settings.specs.pops.CommandLine as pops
use Rattle.pop_settings.specs.pops_part.CommandLine as part
use Rattle.pop_settings.specs.pops_tries.CommandLine as tries
unfoldable use Rattle.pop_settings.specs.pops_part.CommandLine.{parts_by, wanted_by}
unfoldable use Rattle.pop_settings.specs.pops_part.Numbers.{depth_in, number_in, phase_in, range_in}
use Rattle.pop_settings.specs.declared.arg_fault.ArgFault.TheVariants.{Usage}
use Rattle.pop_settings.specs.declared.pops_part.wanted.PhaseName.TheVariants.{Set, Play}
use Rattle.pop_settings.specs.declared.pops_part.wanted.Settings.{Settings as PartSettings}
use Rattle.pop_settings.specs.declared.pops_part.wanted.Wanted.{Wanted}
use Rattle.pop_settings.specs.declared.pops_part.wanted.Wanted.TheVariants.{List as ListOf, Parts, Faults}

-- `pops`: a flag is set exactly if it is there
pub no_other_flag : (words : List Text) (s : PopsSettings) → first_of (codes "check") (matches_of pops.command words) ≡ None
    → first_of (codes "no-board") (matches_of pops.command words) ≡ Some (codes "true") → pops.IsSettings words s → (s.check ≡ false) × (s.no_board ≡ true)
no_other_flag words s absent given is = (is.check ∙ rw absent refl, is.no_board ∙ rw given refl)

-- words that the command takes don't get the fault `Usage`
pub taken_words_are_right : (words : List Text) → takes pops.command words ≡ true → pops.IsMemoryIfTaken words Usage → ⊥
taken_words_are_right words right reported = let wrong = reported right in cc

-- words don't get the fault `Usage` without a cause
pub refused_words_are_wrong : (words : List Text) → pops.refusals words ≡ [] → pops.IsUsageIfRefused words Usage → ⊥
refused_words_are_wrong words none reported = absurd (reported refl none)

-- `pops-part`: words want what clap's matches of them choose, and nothing else
pub nothing_else_wanted : (words : List Text) (s : PartSettings) (wanted : Wanted) → part.wanted_by (matches_of part.command words) ≡ Some wanted
    → part.IsSettings words s → s.wanted ≡ wanted
nothing_else_wanted words s wanted chosen is = let same : Some s.wanted ≡ Some wanted = sym is.wanted ∙ chosen in cc

-- clap's match of an option
abbrev given : Text → Text → Row
given name text = record { id = name; values = text ∷ []; count = None; source = None; reading = AsWritten }

-- the matches choose the parts that are named, which fix one move without `--depth`
parts_wanted : (wanted_by (given (codes "item") (codes "2") ∷ given (codes "phase") (codes "set") ∷ given (codes "part") (codes "3..5") ∷ [])
    ≡ Some (Parts (record { item = 2; phase = Set; first = 3; last = 5; depth = 1 })))
    × (wanted_by
    (given (codes "item") (codes "2") ∷ given (codes "phase") (codes "play") ∷ given (codes "part") (codes "3") ∷ given (codes "depth") (codes "4") ∷ [])
    ≡ Some (Parts (record { item = 2; phase = Play; first = 3; last = 3; depth = 4 })))
unfolding wanted_by parts_by depth_in number_in phase_in range_in
parts_wanted = (refl, refl)

-- the matches choose a list if no parts are named
list_wanted : (wanted_by (given (codes "list") (codes "true") ∷ []) ≡ Some (ListOf 1))
    × (wanted_by (given (codes "list") (codes "true") ∷ given (codes "depth") (codes "2") ∷ []) ≡ Some (ListOf 2))
    × (wanted_by (given (codes "list") (codes "true") ∷ given (codes "part") (codes "1") ∷ []) ≡ None)
    × (wanted_by (given (codes "list") (codes "false") ∷ []) ≡ None)
unfolding wanted_by parts_by depth_in number_in phase_in range_in
list_wanted = (refl, refl, refl, refl)

-- the matches choose the faults if no other option is there
faults_wanted : (wanted_by (given (codes "faults") (codes "true") ∷ []) ≡ Some Faults)
    × (wanted_by (given (codes "faults") (codes "true") ∷ given (codes "list") (codes "false") ∷ []) ≡ Some Faults)
    × (wanted_by (given (codes "faults") (codes "true") ∷ given (codes "list") (codes "true") ∷ []) ≡ None)
    × (wanted_by (given (codes "faults") (codes "true") ∷ given (codes "depth") (codes "1") ∷ []) ≡ None)
    × (wanted_by (given (codes "faults") (codes "true") ∷ given (codes "item") (codes "1") ∷ []) ≡ None)
unfolding wanted_by
faults_wanted = (refl, refl, refl, refl, refl)

-- words that the command takes and that have one of its forms don't get the fault `Usage`
pub words_of_a_form_are_right : (words : List Text) → takes part.command words ≡ true → is_some (wanted_by (matches_of part.command words)) ≡ true
    → part.IsMemoryIfTaken words Usage → ⊥
words_of_a_form_are_right words right meant reported = let wrong = reported right meant in cc

-- words for `pops-part` don't get the fault `Usage` without a cause
pub words_of_no_form_are_wrong : (words : List Text) (wanted : Wanted) → part.refusals words ≡ []
    → wanted_by (matches_of part.command words) ≡ Some wanted → part.IsUsageIfRefused words Usage → ⊥
words_of_no_form_are_wrong words wanted none meant reported = elim (reported refl) [
  | inl some ↦ absurd (some none)
  | inr neither ↦ absurd (let wrong : Some wanted ≡ None = sym meant ∙ neither in cc)
]

-- examples of numbers, ranges, depths and phases
numbers : (number_in (codes "0") ≡ Some 0) × (number_in (codes "007") ≡ Some 7) × (number_in (codes "999999999999999999") ≡ Some 999999999999999999)
unfolding number_in
numbers = (refl, refl, refl)

no_numbers : (number_in [] ≡ None) × (number_in (codes "1x") ≡ None) × (number_in (codes "+1") ≡ None) × (number_in (codes "1000000000000000000") ≡ None)
unfolding number_in
no_numbers = (refl, refl, refl, refl)

ranges : (range_in (codes "7") ≡ Some (record { first = 7; last = 7 })) × (range_in (codes "1..19") ≡ Some (record { first = 1; last = 19 }))
unfolding number_in range_in
ranges = (refl, refl)

no_ranges : (range_in (codes "2..1") ≡ None) × (range_in (codes "1..") ≡ None) × (range_in (codes "..1") ≡ None) × (range_in (codes "1.2") ≡ None)
    × (range_in (codes "1...2") ≡ None)
unfolding number_in range_in
no_ranges = (refl, refl, refl, refl, refl)

depths : (depth_in (codes "1") ≡ Some 1) × (depth_in (codes "4") ≡ Some 4) × (depth_in (codes "5") ≡ None) × (depth_in (codes "0") ≡ None)
    × (depth_in (codes "11") ≡ None)
unfolding depth_in
depths = (refl, refl, refl, refl, refl)

phases : (phase_in (codes "set") ≡ Some Set) × (phase_in (codes "play") ≡ Some Play) × (phase_in (codes "Set") ≡ None)
unfolding phase_in
phases = (refl, refl, refl)

-- `pops-tries`: a try has at most one refutation without `--refutations`, and at most 200 can be asked for
refutations : (tries.refutations_by [] ≡ Some 1) × (tries.refutations_in (codes "0") ≡ Some 0) × (tries.refutations_in (codes "200") ≡ Some 200)
    × (tries.refutations_in (codes "201") ≡ None) × (tries.refutations_in (codes "-1") ≡ None)
unfolding number_in
refutations = (refl, refl, refl, refl, refl)
