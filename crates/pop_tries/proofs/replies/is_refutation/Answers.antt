use Rattle.pop_tries.proofs.Words.{Some, sym, ◌∙◌}
use Rattle.pop_tries.specs.ties.FirstMoves.{refutes}
use Rattle.pop_tries.proofs.Counts.{refuted_by}
use Rattle.pop_tries.proofs.MoveSets.{not_held}
use Rattle.pop_tries.proofs.replies.is_refutation.Goals as goal

pub returns-then-not-may_hold-clause-refutes : goal.returns-then-not-may_hold-clause-refutes
returns-then-not-may_hold-clause-refutes g c =
    let p = c.args.desk.now.board in
    sym (not_held g.R.Rules.rule p (refutes g.R.Rules.rule c.args.contest p) (Some c.args.refuting.moves) c.args.by c.requires.refuting.0 c.requires.ready.well_formed
    c.requires.legal (sym c.may_hold.ensures ∙ c.if-not-may_hold.true))

pub returns-then-place-refuting-clause-refutes : goal.returns-then-place-refuting-clause-refutes
returns-then-place-refuting-clause-refutes g c = refuted_by g.R.Rules.rule c.args.contest c.args.desk.now.board c.args.refuting c.args.place c.args.by
    c.requires.refuting c.requires.ready.well_formed c.requires.legal c.requires.place c.if-place-refuting.true
