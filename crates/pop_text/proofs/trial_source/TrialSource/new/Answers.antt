use Rattle.pop_text.proofs.Basics.{List, Some, ap, ℕ}
use Rattle.pop_text.proofs.Cycles.{cycled_whole}
use Rattle.pop_text.proofs.trial_source.TrialSource.new.Goals as goal

pub returns-clause-remaining : goal.returns-clause-remaining
returns-clause-remaining c = ap (λ (bytes : List ℕ). Some bytes) (cycled_whole c.args.text.now)
