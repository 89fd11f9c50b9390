use Rattle.chess_rules.proofs.Chess.{promotion_at, rules, triple_at}
use Rattle.chess_rules.proofs.listing_moves.triples.move_at.Goals as goal

pub returns : goal.returns
unfolding triple_at promotion_at
returns c = search rules
