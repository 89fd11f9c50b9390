use Rattle.pop_battle.proofs.Escapes.{escapes}
use Rattle.pop_battle.proofs.Words.{arith, rules}
use Rattle.pop_battle.proofs.last_defence.value_of_last_defence.Goals as goal

pub returns-then-certainly_escapes : goal.returns-then-certainly_escapes
returns-then-certainly_escapes g c =
    let e = escapes g.R.Rules.rule c.args.board.now c.requires.well_formed (c.certainly_escapes.ensures.defence c.if-certainly_escapes.true)
    c.args.search_state.now.opened c.saturating_add-search_state.result (omega arith) in
    search (rules, e)
