use Rattle.fen.proofs.Basics.{arith, err_from_is_err_and, ◌∙◌, sym}
use Rattle.fen.proofs.Steps.{finds_digit, finds_man, finds_none, finds_number, none_at_end, not_digit}
use Rattle.fen.proofs.men.next_square.Goals as goal
use Rattle.fen.proofs.men.next_square.Goals.{else-is_digit-via-then-is_digit+else-not-begins_with_digit, else-is_digit-via-else-is_digit}

pub returns-then-empty-gt0 : goal.returns-then-empty-gt0
returns-then-empty-gt0 c = finds_number _ _ c.requires (omega arith)

pub returns-in_err-first : goal.returns-in_err-first
returns-in_err-first c =
    let p = err_from_is_err_and c.from_residual.result c.from_residual.ensures.1 in
    rw (p.1) (none_at_end _ _ (omega arith) c.in_err-first.ensures)

pub returns-then-not-begins_with_digit : goal.returns-then-not-begins_with_digit
returns-then-not-begins_with_digit c =
    finds_digit _ _ c.in_ok-first.first c.in_ok-first.rest.now (omega arith) c.in_ok-first.ensures
    (sym c.is_digit.ensures ∙ c.if-is_digit.true)
    (sym c.begins_with_digit.ensures ∙ c.if-not-begins_with_digit.true)

pub returns : goal.returns
returns c = finds_man _ _ c.in_ok-man.man c.in_ok-man.rest.now (omega arith) c.in_ok-man.ensures

pub returns-in_err-man : goal.returns-in_err-man
returns-in_err-man c =
    let p = err_from_is_err_and c.from_residual-in_err-man.result c.from_residual-in_err-man.ensures.1 in
    rw p.1 (finds_none _ _ c.in_ok-first.first c.in_ok-first.rest.now (omega arith) c.in_ok-first.ensures
    (λ digit. elim c.else-is_digit.branch [
      | else-is_digit-via-then-is_digit+else-not-begins_with_digit w ↦ sym w.begins_with_digit.ensures ∙ w.if-not-begins_with_digit.false
      | else-is_digit-via-else-is_digit w ↦ not_digit _ _ (sym c.is_digit.ensures ∙ w.if-is_digit.false) digit
    ])
    c.in_err-man.ensures)
