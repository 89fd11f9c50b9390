use Rattle.pop_parts.proofs.Words.{nat_tests, nil_from_length, rules}
use Rattle.pop_parts.specs.ties.Beginnings.{beginnings_to_come}
use Rattle.pop_parts.proofs.beginnings.count_to_come.Goals as goal

pub loop-board-preserved-then-is_some : goal.loop-board-preserved-then-is_some
loop-board-preserved-then-is_some g c = let x = c.seek.ensures.seeks _ _ c.loop-board.invariant.seeking in search (rules, x)

pub loop-board-preserved : goal.loop-board-preserved
loop-board-preserved g c = let x = c.seek.ensures.seeks _ _ c.loop-board.invariant.seeking in search (rules, x)

pub returns : goal.returns
unfolding beginnings_to_come
returns g c = search (rules, nil_from_length, nat_tests)
