use Rattle.pop_run.proofs.OwnTexts.{own_texts}
use Rattle.pop_run.proofs.laws.no_neighbour_changes_a_text.Goals as goal

pub returns : goal.returns
returns c = own_texts
