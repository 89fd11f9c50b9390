use Rattle.chess_attacks.proofs.rays.Computed.{ray_at}
use Rattle.chess_attacks.proofs.lines.Direction.ray.Goals as goal

pub returns : goal.returns
returns c = rw c.number.ensures.value (ray_at c.args.self c.args.from _ _ _ c.index.ensures.value c.index.ensures.small)
