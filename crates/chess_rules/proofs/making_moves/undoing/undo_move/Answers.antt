use Rattle.chess_rules.proofs.Chess.{Move, ap, rules, sym, ◌∙◌}
use Rattle.chess_rules.proofs.Returns.{can_take_off, restores}
use Rattle.chess_rules.proofs.making_moves.undoing.undo_move.Goals as goal

pub lift_reborn-requires : goal.lift_reborn-requires
lift_reborn-requires g c = search (rules, can_take_off)

pub go_back-requires : goal.go_back-requires
go_back-requires g c =
    rw c.leaving_man.ensures ((restores _ _ _ _ _ _ _ _ c.requires.well_formed c.requires.pseudo c.requires.after c.requires.undo c.lift_reborn.ensures
    (ap (λ (v : Move). v.to) c.m.view_is) c.show_below_64.ensures
    (ap (λ (v : Move). v.promo) c.m.view_is)).can c.in-Some.arrived (sym c.man_at.ensures ∙ c.in-Some.is))

pub returns-in-Some : goal.returns-in-Some
returns-in-Some g c = λ p well may now was.
    c.go_back.ensures ∙ rw c.leaving_man.ensures ((restores _ _ _ _ _ _ _ _ well may now was c.lift_reborn.ensures
    (ap (λ (v : Move). v.to) c.m.view_is) c.show_below_64.ensures
    (ap (λ (v : Move). v.promo) c.m.view_is)).gives c.in-Some.arrived (sym c.man_at.ensures ∙ c.in-Some.is))

pub returns-in_default : goal.returns-in_default
returns-in_default g c = λ p well may now was.
    absurd ((restores _ _ _ _ _ _ _ _ well may now was c.lift_reborn.ensures
    (ap (λ (v : Move). v.to) c.m.view_is) c.show_below_64.ensures
    (ap (λ (v : Move). v.promo) c.m.view_is)).stands (sym c.man_at.ensures ∙ c.in_default.is))
