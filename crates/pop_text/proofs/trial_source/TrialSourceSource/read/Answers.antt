use Rattle.pop_text.proofs.Basics.{rules}
use Rattle.pop_text.proofs.Cycles.{gives, gives_none}
use Rattle.pop_text.proofs.trial_source.TrialSourceSource.read.Goals as goal

pub returns-clause-bytes : goal.returns-clause-bytes
returns-clause-bytes c = search (rules, gives, gives_none)
