use Rattle.chess_threats.proofs.Chess.{ThreatsSeen, ap, arith, rules}
use Rattle.chess_threats.proofs.Ways.{kept_are_risky}
use Rattle.chess_threats.proofs.threats.Threats.keep_flights.Goals as goal

pub returns-then-not-captures_are_reborn : goal.returns-then-not-captures_are_reborn
returns-then-not-captures_are_reborn g c = λ yes.
    let king_attack = ap (λ (t : ThreatsSeen). t.king_attack) c.self.view_is in
    kept_are_risky _ _ _ _ _ (omega arith) (omega arith) (search rules) (rw king_attack at c.self.invariant.3) (search rules) (search (rules, king_attack))
