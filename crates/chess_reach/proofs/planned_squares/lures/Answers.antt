use Rattle.std.proofs.Common.{refl, true}
use Rattle.chess_reach.proofs.Getting.{every_on}
use Rattle.chess_reach.proofs.planned_squares.lures.Goals as goal

pub returns-then-are_reborn : goal.returns-then-are_reborn
returns-then-are_reborn c n s t few small low on to = every_on (λ t. true) t low refl

pub returns-then-squares-eq0 : goal.returns-then-squares-eq0
returns-then-squares-eq0 c n s t few small low on to = every_on (λ t. true) t low refl

pub returns : goal.returns
returns c n s t few small low on to = c.captured_from.ensures s t small low (c.all_blockable.ensures n s few on) to
