use Rattle.chess_threats.proofs.Chess.{ThreatsSeen, ap, arith, refl, rules}
use Rattle.chess_threats.proofs.Ways.{flightless_are_risky, needed_are_risky}
use Rattle.chess_threats.proofs.kept_flights.KeptFlights.risky_squares.Goals as goal

pub returns-then-ne : goal.returns-then-ne
returns-then-ne g c =
    let king_attack = ap (λ (t : ThreatsSeen). t.king_attack) c.self.view_is in
    needed_are_risky _ _ _ _ _ (omega arith) (omega arith) (search rules) (rw king_attack at c.self.invariant.3) (search (rules, king_attack)) _ c.requires.well_formed
    c.requires.flights

pub returns : goal.returns
returns g c =
    let king_attack = ap (λ (t : ThreatsSeen). t.king_attack) c.self.view_is in
    flightless_are_risky _ _ _ _ _ _ _ _ c.requires.well_formed c.requires.flights (search (rules, king_attack)) (omega arith) (omega arith) (omega arith)
    (search rules) c.king_leaps-castlings.ensures refl (rw king_attack at c.flightless_steps-steps.ensures)
