use Rattle.std.proofs.Common.{append_assoc, refl}
use Rattle.std.proofs.lemmas.List.{append-nil}
use Rattle.pop_print.proofs.line.LineBuffer.add_board.Goals as goal

pub returns-clause-text : goal.returns-clause-text
returns-clause-text g c = rw (
  c.add.ensures,
  c.add_rank-8.ensures.text,
  c.add_rank-7.ensures.text,
  c.add_rank-6.ensures.text,
  c.add_rank-5.ensures.text,
  c.add_rank-4.ensures.text,
  c.add_rank-3.ensures.text,
  c.add_rank-2.ensures.text,
  c.add_rank.ensures.text,
) (simp (append_assoc, append-nil) refl)
