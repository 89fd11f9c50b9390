use Rattle.pop_text.proofs.Basics.{rules}
use Rattle.pop_text.proofs.Padding.{bytes_padded}
use Rattle.pop_text.proofs.text.Text.of.Goals as goal

pub invariant_of-result : goal.invariant_of-result
invariant_of-result c = bytes_padded c.copy_from_slice.new.self c.len-size.result (search rules) (search rules)
