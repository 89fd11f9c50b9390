use Rattle.chess_rules.proofs.Chess.{Move, Some, ap, arith, capture_square, is_simple, is_some, king_after, man_on, rules, occupancy_after, sym, true, ◌<◌, ◌∙◌, ◌≡◌}
use Rattle.chess_rules.proofs.Exposing.{exposed_is, no_king_exposed}
use Rattle.chess_rules.proofs.legality.exposure.leaves_king_in_check_unplayed.Goals as goal

pub returns-in_default-king_after : goal.returns-in_default-king_after
returns-in_default-king_after g c = search (rules, no_king_exposed)

pub returns : goal.returns
returns g c =
    let p = c.args.board.now in
    let m = c.args.m in
    let x = c.in-Some.man in
    let from : c.m.inside.from ≡ m.from = ap (λ (v : Move). v.from) c.m.view_is in
    let to : c.m.inside.to ≡ m.to = ap (λ (v : Move). v.to) c.m.view_is in
    let small : m.to < 64 = omega (arith, to, c.show_below_64.ensures) in
    let here : man_on p.men m.from ≡ Some x = ap (man_on p.men) (sym from) ∙ sym c.man_at.ensures ∙ c.in-Some.is in
    let simple : is_simple g.R.Rules.rule x m (is_some (capture_square p x m)) ≡ true =
    rw (c.is_some.ensures, c.capture_square-captured.ensures) at (sym c.is_simple.ensures ∙ c.if-not-is_simple.false) in
    let king : king_after p x m ≡ Some c.in-Some-king_after.king = sym c.king_after.ensures ∙ c.in-Some-king_after.is in
    let seen : c.occupancy_after-occupancy.result ≡ occupancy_after p.men m.from (capture_square p x m) m.to =
    rw (c.capture_square-captured.ensures, from, to) at c.occupancy_after-occupancy.ensures in
    exposed_is g.R.Rules.rule p x m c.in-Some-king_after.king c.is_attacked_after.result c.requires.well_formed c.requires.pseudo small here simple king
    (λ men are others. search (rules, c.is_attacked_after.ensures men (rw seen are) (rw seen others)))
