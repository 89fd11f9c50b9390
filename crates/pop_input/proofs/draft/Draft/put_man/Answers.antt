use Rattle.pop_input.proofs.Words.{ap, man_fault, sym, ◌∙◌, ◌≡◌}
use Rattle.pop_input.proofs.Putting.{put_keeps}
use Rattle.pop_input.proofs.draft.Draft.put_man.Goals as goal

pub invariant_of-self : goal.invariant_of-self
invariant_of-self c =
    let men : c.self.inside.diagram.men ≡ c.args.self.now.men = ap (λ s. s.men) c.self.view_is in
    let fits = ap (λ m. man_fault m c.args.man c.args.square) men ∙ sym c.man_fault.ensures ∙ c.in_default.is in
    let kept = c.self.invariant in
    (put_keeps c.put.result c.self.inside.diagram c.put.new.self c.args.square c.args.man c.put.ensures fits kept.0, kept.1, kept.2, kept.3)
