use Rattle.fen.proofs.Basics.{err_from_is_err_and}
use Rattle.fen.proofs.Steps.{no_man_end}
use Rattle.fen.proofs.men.read_man.Goals as goal

pub returns-in_err-first : goal.returns-in_err-first
returns-in_err-first c =
    let p = err_from_is_err_and c.from_residual.result c.from_residual.ensures.1 in
    rw p.1 (no_man_end _ c.in_err-first.ensures)
