use Rattle.pop_tries.proofs.Words.{Some, sym, ◌∙◌}
use Rattle.pop_tries.specs.ties.Contests.{wins_within}
use Rattle.pop_tries.proofs.MoveSets.{not_held}
use Rattle.pop_tries.proofs.threats.is_threat.Goals as goal

pub returns-then-not-may_hold-clause-wins : goal.returns-then-not-may_hold-clause-wins
returns-then-not-may_hold-clause-wins g c =
    let p = c.args.desk.now.board in
    sym (not_held g.R.Rules.rule p (wins_within g.R.Rules.rule c.args.contest c.args.threat.length p) (Some c.args.threat.moves) c.args.by c.requires.held
    c.requires.well_formed c.requires.legal (sym c.may_hold.ensures ∙ c.if-not-may_hold.true))
