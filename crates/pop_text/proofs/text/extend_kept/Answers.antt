use Rattle.pop_text.proofs.Basics.{eqb-true, fold_stuck, rules}
use Rattle.pop_text.proofs.Windows.{full_stays}
use Rattle.pop_text.proofs.text.extend_kept.Goals as goal

pub returns-then-is_full : goal.returns-then-is_full
returns-then-is_full c = search (rules, eqb-true, fold_stuck, full_stays)
