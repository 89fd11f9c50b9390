use Rattle.pop_battle.proofs.LastMoves.{begins_first, ends, found_first, from, goes_on, one_more, stops, stuck}
use Rattle.pop_battle.proofs.Words.{refl, rules, value}
use Rattle.pop_battle.proofs.last_defence.value_by_trial.Goals as goal

pub is_reached_without_move-requires : goal.is_reached_without_move-requires
is_reached_without_move-requires g c = search (rules, found_first, c.first_defence-next.ensures)

pub returns-then-is_none : goal.returns-then-is_none
unfolding value
returns-then-is_none g c = search (rules, stuck, found_first, c.first_defence-next.ensures, c.is_reached_without_move.ensures)

pub loop-next-init : goal.loop-next-init
loop-next-init g c =
    let b = begins_first g.R.Rules.rule c.args.board.now _ _ _ _ _ c.first_defence-next.ensures c.args.search_state.now.opened
    c.saturating_add-search_state.result (search rules) (search rules) (search rules) in
    (c.first_defence-next.ensures.unchanged, c.first_defence-next.ensures.within, b.0, b.1)

pub returns-then-not-lets_mate : goal.returns-then-not-lets_mate
returns-then-not-lets_mate g c =
    let s = stops refl _ (rw c.in-Some.is at c.loop-next.invariant.3) (one_more _ _ _ _ _ c.lets_mate.ensures.opened c.lets_mate.ensures.tried)
    (search rules) in
    search (rules, s)

pub loop-next-preserved : goal.loop-next-preserved
loop-next-preserved g c =
    let s = goes_on refl _ (rw c.in-Some.is at c.loop-next.invariant.3) (one_more _ _ _ _ _ c.lets_mate.ensures.opened c.lets_mate.ensures.tried)
    (search rules) in
    search (rules, s, from, c.next_defence-next.ensures)

pub returns : goal.returns
returns g c = let e = ends (rw c.in_default.is at c.loop-next.invariant.3) refl in search (rules, e)
