use Rattle.chess_rules.proofs.Chess.{is_legal, is_legal-idle}
use Rattle.chess_rules.proofs.Walks.{own-origins}
use Rattle.chess_rules.proofs.listing_moves.legal_moves.own_origins.Goals as goal

pub returns : goal.returns
returns g c =
    let rule = g.R.Rules.rule in
    let p = c.args.board.now in
    own-origins rule p (is_legal rule p) (is_legal-idle rule p) c.side.result (rw c.turn.ensures at c.side.ensures)
