use Rattle.std.proofs.Common.{refl}
use Rattle.chess_core.specs.Squares.{squares}
use Rattle.chess_core.proofs.square.Square.all.Goals as goal

pub returns : goal.returns
unfolding squares
returns c = refl
