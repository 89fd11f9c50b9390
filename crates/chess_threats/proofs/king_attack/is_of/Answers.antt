use Rattle.chess_threats.proofs.Chess.{King, Kind, ap, arith, other, refl, rules, same_colour-true, side_of, squares_for, squares_of, sym, ◌∙◌, ◌≡◌}
use Rattle.chess_flights.proofs.KindByKind.{attackers_are}
use Rattle.chess_threats.proofs.KingAttacks.{king_attack_fits, promotions_agree}
use Rattle.chess_threats.proofs.king_attack.is_of.Goals as goal

pub returns : goal.returns
returns g c = λ yes.
    let p = c.args.board.now in
    let v = c.args.king_attack.now in
    let stand : (k : Kind) → squares_for v.men k ≡ squares_of p.men v.men.colour k = λ k. c.is_for_all.ensures (grind (arith, yes)) k refl in
    let castled : v.castled ≡ c.castling_squares.result = grind (arith, yes) in
    let closed : v.closed ≡ c.closed_squares.result = grind (arith, yes) in
    let promotions : v.men.fairy_promotions ≡ c.has_fairy_promotions.result = search (promotions_agree, yes) in
    king_attack_fits g.R.Rules.rule p v (same_colour-true _ _ (sym c.is.ensures ∙ c.if-not-is.false) ∙ c.other.ensures ∙ ap other c.turn.ensures)
    (search (rules, c.king_of.ensures, c.if-ne.false, c.turn-else-not-is.ensures))
    (grind (arith, yes, c.side.ensures, ap (side_of p.men) c.turn-2.ensures)) (grind (arith, yes, c.side-2.ensures))
    (attackers_are p.men v.men stand) (stand King) (rw (← castled) at (c.castling_squares.ensures c.requires))
    (rw (← closed) at c.closed_squares.ensures) (rw (← promotions) at c.has_fairy_promotions.ensures)
