use Rattle.pop_text.proofs.Basics.{is_in_line}
use Rattle.pop_text.proofs.Windows.{front_is}
use Rattle.pop_text.proofs.scanner.Scanner.line_part.Goals as goal

pub returns : goal.returns
returns c = front_is is_in_line c.view-view.ensures c.line_front.ensures (λ bytes plain. plain)
