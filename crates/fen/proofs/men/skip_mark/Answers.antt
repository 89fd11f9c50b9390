use Rattle.fen.proofs.Basics.{arith, err_from_is_err_and, ap, ◌∙◌, ◌∷◌}
use Rattle.fen.proofs.Steps.{no_mark, no_mark_number, skips_end, skips_within}
use Rattle.fen.proofs.men.skip_mark.Goals as goal

pub returns-then-after-gt0 : goal.returns-then-after-gt0
returns-then-after-gt0 c = skips_within _ _ _ c.requires (omega arith)

pub returns-then-empty-gt0 : goal.returns-then-empty-gt0
returns-then-empty-gt0 c = no_mark_number _ _ _ (omega arith) c.requires (omega arith)

pub returns-in_err-rest : goal.returns-in_err-rest
returns-in_err-rest c =
    let p = err_from_is_err_and c.from_residual.result c.from_residual.ensures.1 in
    rw (p.1) (no_mark _ _ _ (omega arith) (omega arith) (rw c.mark.ensures.value at c.in_err-rest.ensures))

pub returns : goal.returns
returns c = skips_end _ _ _ _ (omega arith) (omega arith) (c.in_ok-rest.ensures ∙ ap (λ m. m ∷ c.in_ok-rest.rest.now) c.mark.ensures.value)
