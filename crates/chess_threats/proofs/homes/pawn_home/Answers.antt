use Rattle.chess_threats.proofs.Chess.{rebirth, refl}
use Rattle.chess_threats.proofs.HomeSquares.{pawn_home_on}
use Rattle.chess_threats.proofs.homes.pawn_home.Goals as goal

pub returns-in-White : goal.returns-in-White
unfolding rebirth
returns-in-White c = pawn_home_on c.args.colour _ 2 _ (λ t. rw c.in-White.is refl) (rw (c.new.ensures, c.file.ensures.value) at c.only.ensures)

pub returns-in-Black : goal.returns-in-Black
unfolding rebirth
returns-in-Black c =
    pawn_home_on c.args.colour _ 7 _ (λ t. rw c.in-Black.is refl) (rw (c.new-in-Black.ensures, c.file-in-Black.ensures.value) at c.only-in-Black.ensures)
