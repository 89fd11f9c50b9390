use Rattle.chess_threats.proofs.Chess.{arith, sym, ◌∙◌}
use Rattle.chess_threats.proofs.KingAttacks.{king_castles_anywhere, king_castles_to, shut_on}
use Rattle.chess_threats.proofs.king_attack.castling_squares.Goals as goal

pub returns-then-at-lt4 : goal.returns-then-at-lt4
returns-then-at-lt4 c = λ well. king_castles_anywhere c.args.board.now c.args.colour c.in-Some.king (sym c.king_of.ensures ∙ c.in-Some.is) well

pub returns : goal.returns
returns c = λ well.
    let p = c.args.board.now in
    king_castles_to p c.args.colour c.in-Some.king c.castling_square-long.result c.castling_square-short.result (sym c.king_of.ensures ∙ c.in-Some.is)
    (shut_on p c.args.colour c.side-own.result c.castling_square-long.result c.numbered.result c.numbered-2.result _ _ c.side-own.ensures
    (omega (arith, c.numbered-2.ensures, c.index-at.ensures.value)) c.castling_square-long.ensures
    (omega (arith, c.numbered.ensures, c.index-at.ensures.value)) (omega (arith, c.numbered-2.ensures, c.index-at.ensures.value)))
    (shut_on p c.args.colour c.side-own.result c.castling_square-short.result c.numbered-3.result c.numbered-4.result _ _ c.side-own.ensures
    (omega (arith, c.numbered-4.ensures, c.index-at.ensures.value)) c.castling_square-short.ensures
    (omega (arith, c.numbered-3.ensures, c.index-at.ensures.value)) (omega (arith, c.numbered-4.ensures, c.index-at.ensures.value)))
    well
