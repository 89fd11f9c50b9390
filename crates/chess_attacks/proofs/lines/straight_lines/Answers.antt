use Rattle.chess_attacks.proofs.Basics.{rules}
use Rattle.chess_attacks.proofs.rays.Computed.{straight_lines_at}
use Rattle.chess_attacks.proofs.lines.straight_lines.Goals as goal

pub returns : goal.returns
returns c = search (rules, straight_lines_at)
