use Rattle.chess_threats.proofs.Chess.{bit_at, cases_Bool, inl, inr, off_zero, ◌==◌}
use Rattle.chess_flights.proofs.Bitboards.{on_both}
use Rattle.chess_threats.proofs.Risks.{weak_is}
use Rattle.chess_threats.proofs.risk.KindRiskForKindSquares.of.Goals as goal

pub returns : goal.returns
returns c = λ s small on.
    let v = c.args.self.now.king_attack.now in
    weak_is v c.args.self.now.king_zone.now _ _ _ s c.check_squares_over-checks.ensures (λ plain. c.check_now.ensures c.if-check_now.false plain s on)
    (elim (cases_Bool (bit_at c.suspect_squares.result s == 1)) [
      | inl suspect ↦ c.risk_together.ensures s small (on_both c.args.squares c.suspect_squares.result s on suspect)
      | inr idle ↦ record {
        mild = λ a b lo hi off. (c.suspect_squares.ensures v s small idle).mild a b lo hi (record { lines = λ on. off_zero a; critical = off_zero b });
      }
    ])
