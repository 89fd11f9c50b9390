-- What a search walks: help play, or a battle with only its keys or with variations (own).
use Rattle.std.specs.Prelude.{Bool, true, false, if◌then◌else◌}
use Rattle.pop_input.specs.Posed.{Posed}
use Rattle.pop_stipulation.specs.Stipulations.{battle_of}
use Rattle.pop_events.specs.declared.event.Phase.{Phase}
use Rattle.pop_walk.specs.Events.{is_set, phase_half_moves}
use Rattle.pop_walk.specs.declared.phases.Scope.{Scope}
use Rattle.pop_walk.specs.declared.phases.Scope.TheVariants.{Part, Whole}
use Rattle.pop_walk.specs.declared.phases.Walk.{Walk}
use Rattle.pop_walk.specs.declared.mode.Mode.{Mode}

-- the mode of a problem
abbrev pub mode_of : Posed → Mode
mode_of problem = record {
  battle = battle_of problem.stipulation.form;
  goal = problem.stipulation.goal;
  variation = problem.variation;
}

-- how a phase of a problem is walked
abbrev pub walk_of : Posed → Phase → Scope → Walk
walk_of problem phase scope = record {
  phase = phase;
  mode = mode_of problem;
  half_moves = phase_half_moves problem phase;
  scope = scope;
}

-- the search covers a whole problem
abbrev pub is_whole : Scope → Bool
is_whole Whole = true
is_whole Part = false

-- the search goes on with the play after this walk
abbrev pub goes_on : Walk → Bool
goes_on walk = if is_whole walk.scope then is_set walk.phase else false
