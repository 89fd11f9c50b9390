use Rattle.pop_settings.proofs.Basics.{app_of, is_simple, map, refl, true, ◌≡◌}
use Rattle.pop_settings.proofs.Matching.{matched_kinds, matched_memory, matched_rows}
unfoldable use Rattle.pop_settings.specs.pops_part.CommandLine.{command}
use Rattle.clap.specs.Faults.{is_simple_and_free}
use Rattle.clap.proofs.OnLiterals.{clap_on_literals}
use Rattle.pop_settings.proofs.pops_part.command_line.arg_matches.Goals as goal

is_simple_and_free_command : is_simple_and_free command ≡ true
unfolding clap_on_literals command
is_simple_and_free_command = refl

is_simple_command : is_simple command ≡ true
unfolding clap_on_literals command
is_simple_command = refl

command_is : (c : goal.After-try_get_matches_from) → app_of c.in_ok-command.command ≡ command
unfolding command
command_is c = c.in_ok-command.ensures _ (c.with_option-command-4.ensures _ (c.with_option-command-3.ensures _ (c.with_option-command-2.ensures _
    (c.with_option-command.ensures _ (c.with_flag-command-2.ensures _ (c.with_flag-command.ensures _ c.new-command.ensures.app))))))

pub returns-clause-rows : goal.returns-clause-rows
returns-clause-rows c = let parse = c.try_get_matches_from in
    matched_rows parse.result _ _ (map (λ s. s.now) c.args.words.now) (command_is c) is_simple_command parse.ensures.matches

pub returns-clause-memory : goal.returns-clause-memory
returns-clause-memory c = let parse = c.try_get_matches_from in
    matched_memory parse.result _ _ (map (λ s. s.now) c.args.words.now) (command_is c) parse.ensures.passes

pub returns-clause-kinds : goal.returns-clause-kinds
returns-clause-kinds c = let parse = c.try_get_matches_from in
    matched_kinds parse.result _ _ (map (λ s. s.now) c.args.words.now) (command_is c) is_simple_and_free_command parse.ensures.kinds
