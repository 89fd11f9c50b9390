-- The most positions that the search of a problem may try: one for each list of moves that it walks (own).
use Rattle.std.specs.Prelude.{ℕ, ◌+◌, Bool, false, not, ◌&&◌, ◌||◌, if◌then◌else◌, List}
use Rattle.std.specs.List.{list_all}
use Rattle.chess_rules.specs.Legal.{moves as legal_moves}
use Rattle.chess_rules.specs.Play.{position_after}
use Rattle.chess_attacks.specs.RuleSet.{RuleSet}
use Rattle.pop_battle.specs.Walks.{walk_count}
use Rattle.pop_input.specs.Posed.{Posed}
use Rattle.pop_stipulation.specs.Stipulations.{is_help}
use Rattle.pop_events.specs.declared.event.Phase.{Phase}
use Rattle.pop_events.specs.declared.event.Phase.TheVariants.{Set, Play}
use Rattle.pop_walk.specs.Events.{BareEvent, events, first_phase, impossible, is_impossible_phase, is_set, line, opening, phase_half_moves, phase_start, total, tree_node}

-- the walk count of a phase: the number of lists of fewer moves than its half-moves, each legal when it is
-- played; 0 if the phase is impossible
abbrev pub phase_walk : RuleSet → Posed → Phase → ℕ
phase_walk rule problem phase =
    if is_impossible_phase rule problem phase then 0
    else walk_count (legal_moves rule) (position_after rule) (phase_half_moves problem phase)
    (phase_start problem phase)

-- the sum of an amount over the phases from one on
abbrev pub sum_from : (Phase → ℕ) → Phase → ℕ
sum_from amount phase = if is_set phase then amount Set + amount Play else amount Play

-- the walk count of a problem
abbrev pub whole_walk : RuleSet → Posed → ℕ
whole_walk rule problem = sum_from (phase_walk rule problem) (first_phase problem)

-- the search of the problem walks no list of moves twice: help play, and battle play without set play
-- that shows only keys
abbrev pub is_walked_once : Posed → Bool
is_walked_once problem = is_help problem.stipulation.form
    || (not problem.variation && not problem.set_play)

-- the event says that the limit of solutions stopped a phase
abbrev pub is_stop : BareEvent → Bool
is_stop (opening phase) = false
is_stop impossible = false
is_stop (line phase path) = false
is_stop (tree_node phase path) = false
is_stop (total count stopped) = stopped

-- no event of the list says that the limit of solutions stopped a phase
abbrev pub is_unstopped : List BareEvent → Bool
is_unstopped left = list_all (λ bare. not (is_stop bare)) left

-- the limit of solutions stops no phase of the problem
abbrev pub is_never_stopped : RuleSet → Posed → Bool
is_never_stopped rule problem = is_unstopped (events rule problem)
