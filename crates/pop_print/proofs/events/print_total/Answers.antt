use Rattle.pop_print.proofs.events.print_total.Goals as goal

pub returns-clause-bytes : goal.returns-clause-bytes
returns-clause-bytes g c = rw c.stopped_text.ensures.text at c.print_count.ensures.bytes
