use Rattle.std.proofs.Common.{arith, inl, inr, subst, sym, ◌∙◌}
use Rattle.std.proofs.lemmas.Bool.{cases_eq, false≢true}
use Rattle.chess_reach.specs.ties.Hold.{DoesCheck}
use Rattle.chess_reach.proofs.hold.can_mate.Goals as goal

pub loop-i-preserved : goal.loop-i-preserved
loop-i-preserved c = record {
  none = λ men ends m holds lt checks. elim (cases_eq m c.loop-i.i) [
    | inl same ↦ false≢true (sym c.if-can_mate_by.false ∙ c.can_mate_by.ensures men ends holds (subst (λ k. DoesCheck c.args.quest.now ends k) same checks))
    | inr off ↦ c.loop-i.invariant.none men ends m holds (omega (arith, lt, off)) checks
  ];
}

pub returns : goal.returns
returns c men ends i holds lt checks = absurd (c.loop-i.invariant.none men ends i holds (omega (arith, lt, c.loop-i-test.false)) checks)
