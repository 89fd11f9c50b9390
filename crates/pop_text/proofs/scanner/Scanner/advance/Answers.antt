use Rattle.pop_text.proofs.Basics.{rules}
use Rattle.pop_text.proofs.Windows.{some_used, rest_waits}
use Rattle.pop_text.proofs.scanner.Scanner.advance.Goals as goal

pub returns-clause-uses : goal.returns-clause-uses
returns-clause-uses c = search (rules, some_used)

pub returns-clause-window : goal.returns-clause-window
returns-clause-window c = search (rules, rest_waits)
