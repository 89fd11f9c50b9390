use Rattle.chess_threats.proofs.Chess.{arith, false_by, same_kind-true}
use Rattle.chess_threats.proofs.LastingFlights.{promoting_targets, reached_targets}
use Rattle.chess_threats.proofs.lasting_flights.KindTargetsForKindSquares.of.Goals as goal

pub returns-in_default : goal.returns-in_default
returns-in_default c =
    reached_targets _ _ c.args.kind _ (grind (arith, c.is_fairy.ensures, c.if-is_fairy.true)) (grind (arith, c.is_fairy.ensures, c.if-is_fairy.true))
    (λ same. grind (arith, c.is_fairy.ensures, c.if-is_fairy.true, c.if-not-men.true))

pub returns-in-Rook : goal.returns-in-Rook
returns-in-Rook c = reached_targets _ _ c.args.kind _ (grind (arith, c.in-Rook.is)) (grind (arith, c.in-Rook.is)) (λ same. grind (arith, c.in-Rook.is, same))

pub returns-in_default-2 : goal.returns-in_default-2
returns-in_default-2 c =
    promoting_targets _ _ c.args.kind _ (false_by _ (λ y. c.in_default-2.not-Pawn (same_kind-true _ _ y)))
    (false_by _ (λ y. c.in_default-2.not-King (same_kind-true _ _ y)))
