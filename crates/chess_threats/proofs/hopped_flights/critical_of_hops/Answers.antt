use Rattle.chess_threats.proofs.Chess.{bit_at, cases_Bool, false_by, false≢true, inl, inr, off_left, off_right, off_second, rules, sym, ◌==◌, ◌∙◌}
use Rattle.chess_flights.proofs.Hurdles.{rest_here, rest_on}
use Rattle.chess_flights.proofs.Bitboards.{denied_on, none_at}
use Rattle.chess_threats.proofs.hopped_flights.critical_of_hops.Goals as goal

pub loop-flight-preserved : goal.loop-flight-preserved
loop-flight-preserved c = (
  search (rules, rest_on),
  λ x t hop low on off. record {
    left = λ b small free there.
        elim (cases_Bool (bit_at c.loop-flight.taking t == 1)) [
          | inr left ↦ (c.loop-flight.invariant.1 x t hop low on left).left b small (search (rules, off_left, free)) there
          | inl taking ↦ (
            _,
            c.taking_squares-taken.ensures x _ _ t b hop low (search (rules, rest_here))
                (search (rules, off_second, off, taking)) (search (rules, off_right, free, c.squares_beside-beside.ensures b small)),
          )
        ];
  },
)

pub returns-then-taking-eq0 : goal.returns-then-taking-eq0
returns-then-taking-eq0 c = λ x t hop low on. c.loop-flight.invariant.1 x t hop low on (false_by _ (none_at _ t c.if-taking-eq0.true))

pub returns : goal.returns
returns c = λ x t hop low on. record {
  left = λ b small off there.
      let free = off_right c.loop-flight.critical c.loop-flight.taking b off in
      (c.loop-flight.invariant.1 x t hop low on (false_by _ (λ taking. none_at _ t c.if-taking-enemies-ne0.false (search (
        rules,
        denied_on,
        low,
        taking,
        false_by _ (λ enemy. false≢true (sym free ∙ (rw (there enemy) taking))),
      ))))).left b small (off_left _ _ b off) there;
}
