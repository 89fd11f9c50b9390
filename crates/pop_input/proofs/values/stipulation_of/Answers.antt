use Rattle.pop_input.proofs.Words.{stipulation_of}
use Rattle.pop_input.proofs.Parsing.{long_stipulation}
use Rattle.pop_input.proofs.values.stipulation_of.Goals as goal

pub returns-then-word-gt-LONGEST_STIPULATION-clause-value : goal.returns-then-word-gt-LONGEST_STIPULATION-clause-value
unfolding stipulation_of
returns-then-word-gt-LONGEST_STIPULATION-clause-value c = long_stipulation c.args.word.now c.if-word-gt-LONGEST_STIPULATION.true
