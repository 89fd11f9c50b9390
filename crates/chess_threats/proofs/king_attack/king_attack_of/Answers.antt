use Rattle.chess_threats.proofs.Chess.{ap, other, side_of, sym, ◌∙◌}
use Rattle.chess_threats.proofs.KingAttacks.{king_attack_fits}
use Rattle.chess_threats.proofs.king_attack.king_attack_of.Goals as goal

pub returns-clause-of : goal.returns-clause-of
returns-clause-of g c = λ well king.
    let p = c.args.board.now in
    let men = c.attackers_on.ensures in
    king_attack_fits g.R.Rules.rule p _ (men.colour ∙ c.other-enemy.ensures ∙ ap other c.turn.ensures) king (c.side-own.ensures ∙ ap (side_of p.men) c.turn-2.ensures)
    (c.side-enemies.ensures ∙ ap (side_of p.men) (sym men.colour)) men.men (rw men.colour men.kings)
    (rw men.colour (c.castling_squares.ensures well)) c.closed_squares.ensures men.promotions
