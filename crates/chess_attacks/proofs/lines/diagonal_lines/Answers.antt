use Rattle.chess_attacks.proofs.Basics.{rules}
use Rattle.chess_attacks.proofs.rays.Computed.{diagonal_lines_at}
use Rattle.chess_attacks.proofs.lines.diagonal_lines.Goals as goal

pub returns : goal.returns
returns c = search (rules, diagonal_lines_at)
