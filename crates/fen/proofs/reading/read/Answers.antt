use Rattle.fen.proofs.Fields.{no_men, read_on}
use Rattle.fen.proofs.reading.read.Goals as goal

pub returns : goal.returns
returns c = read_on _ _ _ _ c.in-Ok.ensures c.read_fields.ensures

pub returns-in-Err : goal.returns-in-Err
returns-in-Err c = no_men _ c.in-Err.ensures
