use Rattle.chess_attacks.proofs.Basics.{rules, sym, ◌∙◌}
use Rattle.chess_attacks.proofs.attacks.Attacking.{comes_back, comes_hopper}
use Rattle.chess_attacks.proofs.attacks_on.reach_to.Goals as goal

pub returns-in-Hopper : goal.returns-in-Hopper
returns-in-Hopper c = λ men held.
    (c.queen_hops_back.ensures men held) ∙ comes_hopper men c.args.colour c.args.kind c.args.to (sym c.gait.ensures ∙ c.in-Hopper.is)
    c.show_below_64.ensures

pub returns-in_default : goal.returns-in_default
returns-in_default c = λ men held.
    comes_back men c.args.colour _ c.args.kind c.args.to _ (λ e. c.in_default.not-Hopper (c.gait.ensures ∙ e))
    c.show_below_64.ensures (c.reach_over.ensures men held) (search rules)
