use Rattle.pop_run.proofs.Basics.{appends_then, begins_later, begins_longer, entry_text_by, err_from_is_err_and, writes_then}
use Rattle.pop_run.proofs.play_writer.print_solved.Goals as goal

pub returns-in_err-print_head-clause-bytes : goal.returns-in_err-print_head-clause-bytes
unfolding entry_text_by
returns-in_err-print_head-clause-bytes g c =
    let p = err_from_is_err_and c.from_residual.result c.from_residual.ensures.1 in
    rw p.1 (begins_longer _ (begins_longer _ c.in_err-print_head.ensures.bytes))

pub returns-in_err-write_play-clause-bytes : goal.returns-in_err-write_play-clause-bytes
unfolding entry_text_by
returns-in_err-write_play-clause-bytes g c =
    let p = err_from_is_err_and c.from_residual-in_err-write_play.result c.from_residual-in_err-write_play.ensures.1 in
    rw p.1 (begins_longer _ (begins_later _ _ _ _ _ c.in_ok-print_head.ensures.bytes c.in_err-write_play.ensures.bytes))

pub returns-clause-bytes : goal.returns-clause-bytes
unfolding entry_text_by
returns-clause-bytes g c =
    writes_then _ _ _ _ _ _ (appends_then _ _ _ _ _ c.in_ok-print_head.ensures.bytes c.in_ok-write_play.ensures.bytes) c.put_all.ensures.bytes
