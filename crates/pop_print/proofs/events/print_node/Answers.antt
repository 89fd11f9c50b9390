use Rattle.std.proofs.Common.{◌≤◌, ◌*◌, arith}
use Rattle.std.proofs.lemmas.Result.{err_from_is_err_and}
use Rattle.pop_text.proofs.Appending.{begins_longer, writes_then}
use Rattle.pop_print.proofs.Blanks.{line_cut}
use Rattle.pop_print.specs.Events.{prefix_text}
use Rattle.pop_print.specs.Moves.{move_text}
use Rattle.pop_print.proofs.events.print_node.Goals as goal

pub returns-in_err-put_blanks-clause-bytes : goal.returns-in_err-put_blanks-clause-bytes
returns-in_err-put_blanks-clause-bytes g c =
    let p = err_from_is_err_and c.from_residual.result c.from_residual.ensures.1 in
    let within : c.saturating_sub-apart.result ≤ 2 * c.args.depth = omega (arith, c.saturating_sub-apart.ensures) in
    rw (p.1, line_cut c.saturating_sub-apart.result c.args.depth (prefix_text c.args.half) (move_text c.args.shown.now) c.args.ending.now within) (begins_longer _ c.in_err-put_blanks.ensures.bytes)

pub returns-clause-bytes : goal.returns-clause-bytes
returns-clause-bytes g c =
    let within : c.saturating_sub-apart.result ≤ 2 * c.args.depth = omega (arith, c.saturating_sub-apart.ensures) in
    rw (line_cut c.saturating_sub-apart.result c.args.depth (prefix_text c.args.half) (move_text c.args.shown.now) c.args.ending.now within)
    (writes_then _ _ _ _ _ _ (c.in_ok-put_blanks.ensures.bytes) (rw (c.add_node.ensures, c.new-line.ensures, c.from-blanks.ensures) at c.put.ensures.bytes))
