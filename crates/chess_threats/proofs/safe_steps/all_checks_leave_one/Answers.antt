use Rattle.chess_threats.proofs.Chess.{refl}
use Rattle.chess_threats.proofs.safe_steps.all_checks_leave_one.Goals as goal

pub returns : goal.returns
returns c = λ yes. record { met = λ j. c.is_for_all.ensures yes j refl }
