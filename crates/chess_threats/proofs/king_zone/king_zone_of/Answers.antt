use Rattle.chess_threats.proofs.Chess.{arith}
use Rattle.chess_threats.proofs.KingAttacks.{field_is}
use Rattle.chess_threats.proofs.king_zone.king_zone_of.Goals as goal

pub returns-clause-king_zone : goal.returns-clause-king_zone
returns-clause-king_zone c =
    field_is c.args.king_attack.now c.args.king c.capture_squares.result c.reach_over-straight.result c.reach_over-diagonal.result c.args.riders _
    c.args.hop_targets.now c.requires.hop_targets (omega arith) c.reach_over-straight.ensures c.reach_over-diagonal.ensures c.requires.riders
    c.capture_squares.ensures (search c.promotion_squares.ensures)
