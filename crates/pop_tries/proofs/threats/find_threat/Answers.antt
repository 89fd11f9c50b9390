use Rattle.pop_tries.proofs.threats.find_threat.Goals as goal

pub returns-clause-threat : goal.returns-clause-threat
returns-clause-threat g c = record {
  timed = rw c.in-Some.is at c.threat_length-found.ensures.threat;
  held = rw (c.pass-crossed.ensures.board, c.threat_length-found.ensures.rest.board) at c.winning_moves-winners.ensures.held;
  places = rw (c.pass-crossed.ensures.board, c.threat_length-found.ensures.rest.board) at c.winning_moves-winners.ensures.places;
}
