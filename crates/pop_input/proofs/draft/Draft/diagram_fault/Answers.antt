use Rattle.std.proofs.Common.{ap₂}
use Rattle.pop_input.proofs.Words.{ArePut, ap, has_king_to_mate, in_check, other, rule_of, starting_side, sym, ◌∙◌}
use Rattle.pop_input.proofs.Posing.{ill_fault, position_reported, shown_men}
use Rattle.pop_input.proofs.draft.Draft.diagram_fault.Goals as goal

pub returns-then-not-is_well_formed-clause-fault : goal.returns-then-not-is_well_formed-clause-fault
returns-then-not-is_well_formed-clause-fault c =
    let put : ArePut c.args.self.now.men = rw (← c.self.view_is) c.self.invariant.0 in
    ill_fault c.args.self.now c.args.stipulation c.args.diagram.now c.requires put (sym c.has_men.ensures ∙ c.if-not-has_men.false)
    c.if-not-is_well_formed.ensures

pub returns-clause-fault : goal.returns-clause-fault
returns-clause-fault c =
    let put : ArePut c.args.self.now.men = rw (← c.self.view_is) c.self.invariant.0 in
    let men = ap (λ p. p.men) c.of.ensures ∙ shown_men c.args.diagram.now in
    let condition = ap (λ s. s.condition) c.self.view_is in
    c.position_fault.ensures ∙ position_reported c.args.self.now c.args.stipulation c.args.diagram.now c.requires put
    (sym c.has_men.ensures ∙ c.if-not-has_men.false) c.if-not-is_well_formed.ensures _ _ (ap (has_king_to_mate c.args.stipulation) men)
    (ap₂ (λ known here. in_check (rule_of known) here (other (starting_side c.args.stipulation.form))) condition men)
