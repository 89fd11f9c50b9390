use Rattle.chess_reach.proofs.Prey.{prey_down, prey_up}
use Rattle.chess_reach.proofs.planned_squares.captured_from.Goals as goal

pub returns-in-White : goal.returns-in-White
returns-in-White c s t small low on to = prey_up c.args.mating _ s t c.in-White.is small low on to

pub returns-in-Black : goal.returns-in-Black
returns-in-Black c s t small low on to = prey_down c.args.mating _ s t c.in-Black.is small low on to
