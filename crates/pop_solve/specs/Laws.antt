-- Laws of the definitions (own).
use Rattle.std.specs.Prelude.{◌≢◌, List, take}
use Rattle.std.specs.List.{AllPairs, flat_map}
use Rattle.chess_attacks.specs.RuleSet.{RuleSet}
use Rattle.pop_input.specs.Posed.{Posed}
use Rattle.pop_events.specs.declared.event.Phase.{Phase}
use Rattle.pop_walk.specs.Events.{Path, solutions}

-- the paths that a phase shows: all paths of its first solutions, up to the limit
abbrev pub paths_shown : RuleSet → Posed → Phase → List Path
paths_shown rule problem phase = flat_map (λ solution. solution)
    (take problem.max_solutions (solutions rule problem phase))

-- no path comes twice in a phase, for all rules and problems
abbrev pub NoPathComesTwice : Type 0
NoPathComesTwice = (rule : RuleSet) (problem : Posed) (phase : Phase)
    → AllPairs (λ path other. path ≢ other) (paths_shown rule problem phase)
