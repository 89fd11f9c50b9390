use Rattle.chess_core.proofs.Kings.{king_placed, other_placed}
use Rattle.chess_core.proofs.Men.{AtMostOneKing-with}
use Rattle.chess_core.proofs.Basics.{AtMostOneKing, None, length-set, man_on, rules, sym, with_man, ◌<◌, ◌∙◌, ◌≡◌}
use Rattle.chess_core.proofs.board.Board.place.Goals as goal

pub invariant_of-self : goal.invariant_of-self
invariant_of-self c =
    let small : c.args.square < 64 = search rules in
    let empty : man_on c.self.inside.men c.args.square ≡ None = search rules in
    let one : AtMostOneKing (with_man c.self.inside.men c.args.square c.args.man) = search (rules, AtMostOneKing-with) in (
      search (rules, length-set),
      search (rules, one),
      search (king_placed, small, empty, one, sym c.is.ensures ∙ c.if-is.true),
    )

pub invariant_of-self-else-is : goal.invariant_of-self-else-is
invariant_of-self-else-is c =
    let small : c.args.square < 64 = search rules in
    let empty : man_on c.self.inside.men c.args.square ≡ None = search rules in (
      search (rules, length-set),
      search (rules, AtMostOneKing-with),
      search (other_placed, small, empty, sym c.is.ensures ∙ c.if-is.false),
    )
