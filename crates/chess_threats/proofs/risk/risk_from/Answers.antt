use Rattle.chess_threats.proofs.Chess.{inl, inr, rules}
use Rattle.chess_threats.proofs.Risks.{harmless_quietly, open_arrivals}
use Rattle.chess_threats.proofs.risk.risk_from.Goals as goal

pub returns-then-not-contains : goal.returns-then-not-contains
returns-then-not-contains c =
    harmless_quietly _ _ _ _ _ _ c.checking_targets-most.result (open_arrivals _ _ _ c.unblocked_targets-open.result c.unblocked_targets-open.ensures)
    (search (rules, c.checking_targets-most.ensures)) c.if-most-eq0.true (search rules)

pub returns-then-not-contains-2 : goal.returns-then-not-contains-2
returns-then-not-contains-2 c =
    harmless_quietly _ _ _ _ _ _ c.checking_targets-targets.result c.arrivals-reached.ensures (search (rules, c.checking_targets-targets.ensures))
    c.if-targets-eq0.true (search rules)

pub returns : goal.returns
returns c = record {
  mild = λ a b small inside off. record {
    each = λ t i there.
        let on = c.arrivals-reached.ensures.inside t i in
        elim (c.risk_of_going.ensures a b t small inside off i.small on there) [
          | inl calm ↦ inl (record { check = c.checking_targets-targets.ensures t i.small on calm.0; covered = inr calm.1 })
          | inr flight ↦ inr flight
        ];
  };
}
