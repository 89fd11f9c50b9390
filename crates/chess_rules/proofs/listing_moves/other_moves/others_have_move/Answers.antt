use Rattle.chess_rules.proofs.Chess.{◌∙◌}
use Rattle.chess_rules.proofs.listing_moves.OtherMoves.{others_found}
use Rattle.chess_rules.proofs.listing_moves.other_moves.others_have_move.Goals as goal

pub returns-clause-answer : goal.returns-clause-answer
returns-clause-answer g c =
    let rest = rw c.over.ensures.start at c.next.ensures.rest in
    c.is_some.ensures ∙ others_found g.R.Rules.rule c.args.board.now c.next.result _ rest
