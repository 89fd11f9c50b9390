use Rattle.chess_attacks.proofs.Basics.{rules}
use Rattle.chess_attacks.proofs.rays.Computed.{aside_at}
use Rattle.chess_attacks.proofs.leaps.squares_aside.Goals as goal

pub returns : goal.returns
returns c = search (rules, aside_at)
