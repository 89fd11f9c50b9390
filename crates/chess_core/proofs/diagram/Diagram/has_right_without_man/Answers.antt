use Rattle.chess_core.proofs.Basics.{ap, has_right_without_man, ◌≡◌}
use Rattle.chess_core.proofs.Setups.{left_word}
use Rattle.chess_core.proofs.Words.{some_square_known}
use Rattle.chess_core.proofs.diagram.Diagram.has_right_without_man.Goals as goal

pub returns : goal.returns
returns c =
    let u : c.self.inside.unmoved ≡ c.args.self.now.unmoved = ap (λ d. d.unmoved) c.self.view_is in
    some_square_known (has_right_without_man c.args.self.now.unmoved c.args.self.now.men) _
    (rw (c.squares.ensures, c.home_squares.ensures, u) (left_word c.args.self.now.unmoved c.args.self.now.men))
