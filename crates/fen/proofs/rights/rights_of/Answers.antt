use Rattle.fen.proofs.Castlings.{rights_built}
use Rattle.fen.proofs.rights.rights_of.Goals as goal

pub returns : goal.returns
returns c = rights_built _ _ _ _ _ _ _ _ _ c.none-none.ensures c.with_castling-short.ensures c.with_castling-white.ensures c.with_castling-three.ensures c.with_castling.ensures
