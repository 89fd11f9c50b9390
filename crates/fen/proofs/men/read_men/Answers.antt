use Rattle.fen.proofs.Basics.{arith, err_from_is_err_and, refl, ◌-◌}
use Rattle.fen.proofs.Loop.{none_at, read_all, read_more, read_no_mark, read_no_square, read_none}
use Rattle.fen.proofs.men.read_men.Goals as goal

pub loop-number-init : goal.loop-number-init
loop-number-init c = rw c.new-diagram.ensures.men (read_none _ _ refl none_at)

pub next_square-requires : goal.next_square-requires
next_square-requires c = c.loop-number.invariant.left

pub returns-in_err-found : goal.returns-in_err-found
returns-in_err-found c =
    let p = err_from_is_err_and c.from_residual.result c.from_residual.ensures.1 in
    rw p.1 (λ men tail fits e. read_no_square _ _ (63 - c.loop-number.number) _ _ _ (omega arith) c.loop-number.invariant c.in_err-found.ensures men tail e)

pub returns-in_err-announced : goal.returns-in_err-announced
returns-in_err-announced c =
    let p = err_from_is_err_and c.from_residual-in_err-announced.result c.from_residual-in_err-announced.ensures.1 in
    rw p.1 (λ men tail fits e.
    read_no_mark _ _ (63 - c.loop-number.number) _ _ _ _ _ _ (omega arith) c.loop-number.invariant c.in_ok-found.ensures c.in_err-announced.ensures men tail e)

pub loop-number-preserved : goal.loop-number-preserved
loop-number-preserved c =
    read_more _ _ (63 - c.loop-number.number) _ _ _ _ _ _ _ _ _ _ (omega arith) (omega arith) (omega arith) c.set.ensures.size
    c.loop-number.invariant c.in_ok-found.ensures c.set.ensures.here c.set.ensures.others c.in_ok-announced.ensures

pub returns : goal.returns
returns c = read_all _ _ _ _ _ (omega arith) c.loop-number.invariant
