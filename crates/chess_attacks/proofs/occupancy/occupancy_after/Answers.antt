use Rattle.chess_attacks.proofs.Basics.{refl}
use Rattle.chess_attacks.proofs.occupancy.occupancy_after.Goals as goal

pub returns : goal.returns
returns c = rw (c.occupied.ensures, c.only.ensures, c.only-gone.ensures, c.only-2.ensures) refl
