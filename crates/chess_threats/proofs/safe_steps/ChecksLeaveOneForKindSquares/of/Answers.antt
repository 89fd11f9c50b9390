use Rattle.chess_threats.proofs.Chess.{bit_at, cases_Bool, false_by, false≢true, inl, inr, rules, sym, ◌==◌, ◌∙◌}
use Rattle.chess_flights.proofs.Bitboards.{on_both, none_at}
use Rattle.chess_threats.proofs.safe_steps.ChecksLeaveOneForKindSquares.of.Goals as goal

pub returns-then-is : goal.returns-then-is
returns-then-is c = λ yes mortal t small on. absurd (false≢true (sym mortal ∙ sym c.is.ensures ∙ c.if-is.true))

pub returns-then-targets-eq0 : goal.returns-then-targets-eq0
returns-then-targets-eq0 c = λ yes mortal t small on. absurd (none_at _ t c.if-targets-eq0.true on)

pub returns : goal.returns
returns c = λ yes mortal t small on. elim (cases_Bool (bit_at c.open_approaches-checks.result t == 1)) [
  | inl may ↦ inr (c.of.ensures yes t small (search (rules, on_both, on, may)))
  | inr none ↦ inl (λ men. false_by _ (λ r. false≢true (sym none ∙ c.open_approaches-checks.ensures.inside men t small r)))
]
