use Rattle.std.proofs.lemmas.Result.{err_from_is_err_and}
use Rattle.pop_print.proofs.Blanks.{blanks_begin}
use Rattle.pop_print.proofs.events.put_blanks.Goals as goal

pub returns-in_err-put_all-clause-bytes : goal.returns-in_err-put_all-clause-bytes
returns-in_err-put_all-clause-bytes g c =
    let p = err_from_is_err_and c.from_residual.result c.from_residual.ensures.1 in
    rw p.1 (blanks_begin _ _ _ c.loop-blank._blank c.args.count c.loop-blank-test.true c.loop-blank.invariant.bytes c.in_err-put_all.ensures.bytes)
