use Rattle.chess_rules.proofs.Castles.{castling}
use Rattle.chess_attacks.proofs.Basics.{arith}
use Rattle.chess_rules.proofs.legality.castling.can_castle.Goals as goal

pub returns-clause-board : goal.returns-clause-board
returns-clause-board g c = grind (arith, castling)

pub place-requires : goal.place-requires
place-requires g c = record { empty = grind (arith, castling); one_king = grind (arith, castling) }

pub place-requires-2 : goal.place-requires-2
place-requires-2 g c = record { empty = grind (arith, castling); one_king = grind (arith, castling) }
