use Rattle.pop_input.proofs.Words.{ArePut, ap, sym, ◌∙◌}
use Rattle.pop_input.proofs.Posing.{well_formed_without}
use Rattle.pop_input.proofs.draft.Draft.is_well_formed.Goals as goal

pub returns-in-None : goal.returns-in-None
returns-in-None c =
    let put : ArePut c.args.self.now.men = rw (← c.self.view_is) c.self.invariant.0 in
    well_formed_without c.args.self.now c.args.form c.args.diagram.now c.requires put (sym (ap (λ s. s.crossed) c.self.view_is) ∙ c.in-None.is)
