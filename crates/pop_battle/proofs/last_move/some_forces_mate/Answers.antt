use Rattle.pop_battle.proofs.Words.{arith, joined_value, refl, rules}
use Rattle.pop_battle.proofs.LastMoves.{ends, goes_on, none_skipped, one_more, skipped_on, stops, walk_among-two}
use Rattle.pop_battle.proofs.last_move.some_forces_mate.Goals as goal

pub loop-by-init : goal.loop-by-init
unfolding joined_value
loop-by-init g c = search (rules, walk_among-two)

pub returns-then-forces_mate : goal.returns-then-forces_mate
returns-then-forces_mate g c =
    let tried = skipped_on (rw c.loop-by.invariant.0 at c.in-Some.ensures.next.0) c.loop-by.invariant.3 in
    let s = stops refl c.saturating_add.result tried (one_more _ _ _ _ _ (omega arith) (omega arith)) (search rules) in
    search (rules, s)

pub loop-by-preserved : goal.loop-by-preserved
loop-by-preserved g c =
    let tried = skipped_on (rw c.loop-by.invariant.0 at c.in-Some.ensures.next.0) c.loop-by.invariant.3 in
    (search rules, search rules, λ zero. absurd (omega (arith, zero)), goes_on refl _ tried (one_more _ _ _ _ _ (omega arith) (omega arith)) (search rules))

pub returns : goal.returns
returns g c =
    let none = rw c.loop-by.invariant.0 at c.in_default.ensures.next in
    let tried = skipped_on none c.loop-by.invariant.3 in
    search (rules, tried.joined, ends tried refl, none_skipped none)
