use Rattle.std.proofs.Common.{◌-◌}
use Rattle.search_tests.proofs.row.run.Given as goal

-- fewer events are still asked for
abbrev pub decreases-loop-events : goal.decreases-loop-events
decreases-loop-events g l = l.most - l.events
