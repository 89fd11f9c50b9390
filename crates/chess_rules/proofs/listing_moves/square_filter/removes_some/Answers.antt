use Rattle.chess_rules.proofs.Chess.{arith, per_origin, refl, triple_at, ◌*◌, ◌+◌}
use Rattle.chess_rules.proofs.Filtering.{sure_fails, removed_candidates, removed_fails}
use Rattle.chess_rules.proofs.Walks.{triple_of}
use Rattle.std.proofs.lemmas.Bool.{ltb-true}
use Rattle.chess_rules.proofs.listing_moves.square_filter.removes_some.Goals as goal

pub next_of_man-requires-clause-squares : goal.next_of_man-requires-clause-squares
next_of_man-requires-clause-squares g c =
    removed_candidates _ _ (g.S.SquareFilter.test g.R.Rules.rule c.args.board.now) _ _ _ c.candidates_with_legality-given.ensures.candidates

pub returns-in-Sure-clause-fails : goal.returns-in-Sure-clause-fails
returns-in-Sure-clause-fails g c = λ yes.
    sure_fails _ _ _ _ _ _ (omega arith) c.kept_candidates.ensures.wanted (c.candidates_with_legality-given.ensures.legal c.in-Sure.is) (omega arith) (omega arith)

pub returns-in-Open-clause-fails : goal.returns-in-Open-clause-fails
returns-in-Open-clause-fails g c = λ yes.
    let less = ltb-true _ _ yes in
    let at = triple_of c.args.from c.next_of_man.result less in
    removed_fails _ _ _ _ _ _ (omega arith) c.kept_candidates.ensures.wanted (triple_at (per_origin * c.args.from + c.next_of_man.result))
    (c.next_of_man.ensures.first.meets less) (rw at refl) (rw at (omega arith)) (c.next_of_man.ensures.first.inside less)
