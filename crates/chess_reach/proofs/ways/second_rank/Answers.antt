use Rattle.std.proofs.Common.{ap, sym, ◌==◌, ◌∙◌}
use Rattle.chess_core.specs.Squares.{rank_of}
use Rattle.chess_rules.specs.Legal.{second_rank}
use Rattle.chess_reach.proofs.Getting.{second_ranks}
use Rattle.chess_reach.proofs.ways.second_rank.Goals as goal

pub returns-in-White : goal.returns-in-White
returns-in-White c s small = (second_ranks s small).0 ∙ ap (λ x. rank_of s == second_rank x) (sym c.in-White.is)

pub returns-in-Black : goal.returns-in-Black
returns-in-Black c s small = (second_ranks s small).1 ∙ ap (λ x. rank_of s == second_rank x) (sym c.in-Black.is)
