use Rattle.pop_tries.proofs.Words.{◌≡◌}
use Rattle.pop_tries.specs.ties.Searching.{HoldsAt, left_of, rank}
use Rattle.pop_tries.proofs.search.next_event.Given as goal

-- the events to come are those at the call
abbrev pub invariant-loop-desk : goal.invariant-loop-desk
invariant-loop-desk g l = HoldsAt g.R.Rules.rule l.task l.progress l.desk.frames.items l.desk.board
    × (left_of g.R.Rules.rule l.task l.fn.progress l.fn.desk.frames.items ≡ left_of g.R.Rules.rule l.task l.progress l.desk.frames.items)

abbrev pub decreases-loop-desk : goal.decreases-loop-desk
decreases-loop-desk g l = rank l.progress
