use Rattle.chess_threats.proofs.Chess.{ThreatsSeen, ap, arith, may_be_made, maker, rules, sym, ◌∙◌}
use Rattle.chess_threats.proofs.Ways.{moves_are_risky, steps_are_risky, only_these_are_risky}
use Rattle.chess_threats.proofs.threats.Threats.risky_squares.Goals as goal

pub returns-in_default-clause-risky : goal.returns-in_default-clause-risky
returns-in_default-clause-risky g c = record {
  is_decided = λ m legal origin on off. grind (arith, (maker _ _ m (may_be_made _ _ m legal)).1, c.man_at.ensures, c.in_default.is);
}

pub returns-then-is-clause-risky : goal.returns-then-is-clause-risky
returns-then-is-clause-risky g c =
    steps_are_risky _ _ _ _ c.requires.well_formed c.requires.threats _ _ _ _ (sym c.man_at.ensures ∙ c.in-Some.is) (omega arith) (omega arith)
    c.unplain_squares-unplain.ensures.plain c.unplain_squares-unplain.ensures.mere (omega arith) (search rules)
    (rw (ap (λ (t : ThreatsSeen). t.king_attack) c.self.view_is) at c.cached_risky_steps-risky.ensures.risky)

pub returns-clause-risky : goal.returns-clause-risky
returns-clause-risky g c =
    let king_attack = ap (λ (t : ThreatsSeen). t.king_attack) c.self.view_is in
    let mortal = sym c.is.ensures ∙ c.if-is.false in
    only_these_are_risky _ _ _ _ c.requires.well_formed c.requires.threats _ _ c.needed_among-needed.result _
    (sym c.man_at.ensures ∙ c.in-Some.is) (omega arith) mortal
    (λ t low on off. let unneeded = c.needed_among-needed.ensures t low on off in (unneeded.0, (rw king_attack at c.self.invariant.3).keeps t low unneeded.1))
    (moves_are_risky _ _ _ _ c.requires.well_formed c.requires.threats _ _ _ _ (sym c.man_at.ensures ∙ c.in-Some.is) (omega arith) (omega arith)
    c.unplain_squares-unplain.ensures.plain c.unplain_squares-unplain.ensures.mere (omega arith) mortal (rw king_attack at c.critical_of-critical.ensures.safe))
