use Rattle.chess_threats.proofs.risk.joined.Goals as goal

pub returns-clause-critical : goal.returns-clause-critical
returns-clause-critical c = λ k t on. c.union_of.ensures.all k t (rw (c.for_each_kind.ensures k) on)

pub returns-clause-lines : goal.returns-clause-lines
returns-clause-lines c = λ k t on. c.union_of-2.ensures.all k t (rw (c.for_each_kind-2.ensures k) on)
