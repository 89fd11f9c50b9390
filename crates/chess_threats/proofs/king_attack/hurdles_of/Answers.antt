use Rattle.chess_threats.proofs.Chess.{arith}
use Rattle.chess_threats.proofs.KingAttacks.{hurdles_whole}
use Rattle.chess_threats.proofs.king_attack.hurdles_of.Goals as goal

pub returns-clause-whole : goal.returns-clause-whole
returns-clause-whole c = hurdles_whole _ _ _ _ _ c.args.lifted c.only.ensures (omega arith) c.only-2.ensures (omega arith)
