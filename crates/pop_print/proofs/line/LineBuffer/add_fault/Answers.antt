use Rattle.std.proofs.Common.{append_assoc, refl}
use Rattle.pop_print.specs.Faults.{fault_text}
use Rattle.pop_print.proofs.line.LineBuffer.add_fault.Goals as goal

pub returns : goal.returns
unfolding fault_text
returns g c = rw (
  c.add-5.ensures,
  c.add-4.ensures,
  c.as_bytes.ensures.value,
  c.message.ensures.text,
  c.add-3.ensures,
  c.add_number-2.ensures.text,
  c.from.ensures,
  c.number.ensures.value,
  c.add-2.ensures,
  c.add_number.ensures.text,
  c.add.ensures,
  c.add_item_line.ensures.text,
) (simp append_assoc refl)
