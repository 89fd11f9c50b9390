use Rattle.chess_threats.proofs.Chess.{rules}
use Rattle.chess_threats.proofs.king_zone.compute_targets.Goals as goal

pub returns-then-captures_are_reborn : goal.returns-then-captures_are_reborn
returns-then-captures_are_reborn g c = search (rules, c.unknown.ensures)
