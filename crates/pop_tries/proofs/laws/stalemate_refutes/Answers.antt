use Rattle.pop_tries.proofs.Contests.{stalemate_refutes}
use Rattle.pop_tries.proofs.laws.stalemate_refutes.Goals as goal

pub returns : goal.returns
returns c = stalemate_refutes
