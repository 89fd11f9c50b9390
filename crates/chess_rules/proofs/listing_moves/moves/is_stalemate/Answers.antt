use Rattle.chess_rules.proofs.Chess.{is_stalemate, rules}
use Rattle.chess_rules.proofs.listing_moves.moves.is_stalemate.Goals as goal

pub returns-then-not-checked-clause-answer : goal.returns-then-not-checked-clause-answer
unfolding is_stalemate
returns-then-not-checked-clause-answer g c = search rules
