use Rattle.pop_text.proofs.Basics.{Err, None, Ok, ap}
use Rattle.pop_text.proofs.Using.{fault_sticks, found_stands, found_uses, uses_cut}
use Rattle.pop_text.proofs.Left.{next_of}
use Rattle.pop_text.proofs.scanner.Scanner.read_word.Goals as goal

pub returns-in-Ok-None-clause-used : goal.returns-in-Ok-None-clause-used
returns-in-Ok-None-clause-used g c = (c.skip_gap.ensures.uses, rw c.in-Ok-None.field-0-is at c.in-Ok-None.ensures.at)

pub returns-in-Ok-None-clause-word : goal.returns-in-Ok-None-clause-word
returns-in-Ok-None-clause-word g c =
    next_of _ _ _ _ (Ok None) (returns-in-Ok-None-clause-used g c) (rw c.in-Ok-None.field-0-is at c.in-Ok-None.ensures.at)

pub returns-in-Ok-Some-clause-used : goal.returns-in-Ok-Some-clause-used
returns-in-Ok-Some-clause-used g c =
    rw c.found_of_run.ensures (found_uses _ _ _ _ _ _ _ c.read_run-run.result c.skip_gap.ensures.uses (ap (λ p. p.line) c.self.view_is)
    c.read_run-run.ensures.run)

pub returns-in-Ok-Some-clause-word : goal.returns-in-Ok-Some-clause-word
returns-in-Ok-Some-clause-word g c =
    let at = rw c.in-Ok-Some.field-0-is at c.in-Ok-Some.ensures.at in
    let out = rw c.in-Ok-Some.field-0-is at c.in-Ok-Some.ensures.other in
    next_of _ _ _ _ _ (returns-in-Ok-Some-clause-used g c) (rw c.found_of_run.ensures
    (found_stands _ _ _ _ _ c.read_run-run.result _ _ c.read_run-run.ensures.run at.1 out))

pub returns-in-Err-clause-used : goal.returns-in-Err-clause-used
returns-in-Err-clause-used g c = uses_cut _ _ _ _ c.in-Err.fault c.skip_gap.ensures.uses c.in-Err.ensures.at

pub returns-in-Err-clause-word : goal.returns-in-Err-clause-word
returns-in-Err-clause-word g c = next_of _ _ _ _ (Err c.in-Err.fault) (returns-in-Err-clause-used g c) (fault_sticks c.in-Err.fault _ c.in-Err.ensures.at)
