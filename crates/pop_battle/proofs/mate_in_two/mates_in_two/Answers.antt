use Rattle.pop_battle.proofs.LastMoves.{begins_ordered, ends, goes_on, stops}
use Rattle.pop_battle.proofs.Values.{free_moves}
use Rattle.pop_battle.proofs.Words.{Direct, Mate, arith, chess, refl, rules}
use Rattle.pop_battle.proofs.mate_in_two.mates_in_two.Goals as goal

pub loop-by-init : goal.loop-by-init
loop-by-init g c =
    let free = free_moves Direct (chess Mate g.R.Rules.rule) 3 c.args.board.now (omega arith) refl in
    let b = begins_ordered Direct g.R.Rules.rule c.args.board.now 2 c.order_of-order.result c.args.search_state.now.opened
    c.saturating_add-search_state.result free (omega arith) (omega arith) in
    search (rules, b)

pub returns-then-leaves_no_defence : goal.returns-then-leaves_no_defence
returns-then-leaves_no_defence g c =
    let s = stops (rw c.loop-by.invariant.0 at c.in-Some.ensures.next.0) c.leaves_no_defence.new.search_state.opened c.loop-by.invariant.2 (search rules)
    (search rules) in
    search (rules, s)

pub loop-by-preserved : goal.loop-by-preserved
loop-by-preserved g c =
    let s = goes_on (rw c.loop-by.invariant.0 at c.in-Some.ensures.next.0) c.leaves_no_defence.new.search_state.opened c.loop-by.invariant.2 (search rules)
    (search rules) in
    search (rules, s)

pub returns : goal.returns
returns g c = let e = ends c.loop-by.invariant.2 (rw c.loop-by.invariant.0 at c.in_default.ensures.next) in search (rules, e)
