use Rattle.chess_mates.proofs.Chess.{or_lt, rules}
use Rattle.chess_mates.proofs.FarMen.{check_origins_are, far_either}
use Rattle.chess_mates.proofs.origins.check_origins.Goals as goal

pub returns : goal.returns
returns g c = search (rules, far_either, check_origins_are, or_lt) depth 8
