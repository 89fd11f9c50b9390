use Rattle.chess_threats.proofs.Chess.{bit_at, cases_Bool, inl, inr, off_second, rules, ◌==◌}
use Rattle.chess_flights.proofs.Hurdles.{rest_here, rest_on}
use Rattle.chess_threats.proofs.quiet_steps.holding_squares.Goals as goal

pub loop-to-preserved : goal.loop-to-preserved
loop-to-preserved c = (
  search (rules, rest_on),
  λ t small off. elim (cases_Bool (bit_at c.loop-to.squares t == 1)) [
    | inl on ↦ (_, c.stopping_squares-squares.ensures _ t (search (rules, rest_here)) small (off_second _ _ t off on))
    | inr before ↦ c.loop-to.invariant.1 t small before
  ],
)
