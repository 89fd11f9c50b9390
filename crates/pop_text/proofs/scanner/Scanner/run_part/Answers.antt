use Rattle.pop_text.proofs.Basics.{is_in_word}
use Rattle.pop_text.proofs.WordLaws.{solid_line}
use Rattle.pop_text.proofs.Windows.{front_is}
use Rattle.pop_text.proofs.scanner.Scanner.run_part.Goals as goal

pub returns : goal.returns
returns c = front_is is_in_word c.view-view.ensures c.run_length.ensures solid_line
