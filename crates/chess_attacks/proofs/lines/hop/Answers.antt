use Rattle.chess_attacks.proofs.rays.HopWords.{hop_is}
use Rattle.chess_attacks.proofs.rays.Stopping.{stops}
use Rattle.chess_attacks.proofs.lines.hop.Goals as goal

pub returns : goal.returns
returns c = λ men held.
    hop_is _ _ _ _ _ (stops _ _ _ _ _ _ c.ray.ensures held c.first-hurdle.ensures) c.show_below_64.ensures (rw c.next.ensures at c.only.ensures)
