use Rattle.fen.proofs.Basics.{ap, err_from_is_err_and, refl}
use Rattle.fen.proofs.Fields.{has_fields, no_crossed, no_rights, no_turn}
use Rattle.fen.proofs.reading.read_fields.Goals as goal

pub returns-in_err-turn : goal.returns-in_err-turn
returns-in_err-turn c =
    let p = err_from_is_err_and c.from_residual.result c.from_residual.ensures.1 in
    rw p.1 (no_turn _ c.in_err-turn.ensures)

pub returns-in-Err : goal.returns-in-Err
returns-in-Err c = no_rights _ _ _ c.in_ok-turn.ensures c.in-Err.ensures

pub returns-in_err-crossed : goal.returns-in_err-crossed
returns-in_err-crossed c =
    let p = err_from_is_err_and c.from_residual-in_err-crossed.result c.from_residual-in_err-crossed.ensures.1 in
    rw p.1 (no_crossed _ _ _ _ _ c.in_ok-turn.ensures c.in-Ok.ensures c.in_err-crossed.ensures)

pub returns : goal.returns
returns c = (
  has_fields _ _ _ _ _ _ _ c.in_ok-turn.ensures c.in-Ok.ensures c.in_ok-crossed.ensures.0 c.in_ok-crossed.ensures.1 refl refl refl,
  ap (λ d. d.men) c.diagram.view_is,
)
