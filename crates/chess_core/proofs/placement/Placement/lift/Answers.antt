use Rattle.chess_core.proofs.Basics.{None, Some, length-set, man_on, ◌<◌, ◌∙◌, ◌≡◌}
use Rattle.chess_core.proofs.Kept.{lifted}
use Rattle.chess_core.proofs.placement.Placement.lift.Goals as goal

pub invariant_of-self : goal.invariant_of-self
invariant_of-self c =
    let x = c.in-Some.man in
    let b = c.self.inside in
    let small : c.args.square < 64 = rw c.index-index.ensures.value at c.index-index.ensures.small in
    let held : man_on b.array c.args.square ≡ Some x = rw (← c.index-index.ensures.value) c.in-Some.is in
    rw (c.index-index.ensures.value, c.number-kind.ensures.value, c.number-side.ensures.value) (
      length-set b.array c.args.square None ∙ c.self.invariant.0,
      lifted b.array b.by_kind b.by_side c.args.square x c.self.invariant.1 c.self.invariant.0 small held,
    )
