use Rattle.pop_tries.proofs.Words.{rules}
use Rattle.pop_tries.proofs.ThreatLengths.{threat_length_is}
use Rattle.pop_tries.proofs.threats.threat_length.Goals as goal

pub returns-clause-threat : goal.returns-clause-threat
returns-clause-threat g c = threat_length_is g.R.Rules.rule c.args.contest c.requires.ready.fits c.args.desk.now.board (search rules) _ (search rules)
