use Rattle.std.proofs.Common.{[], subst, sym, true, ◌∙◌, ◌≡◌}
use Rattle.chess_attacks.specs.Reaches.{reaches_as}
use Rattle.chess_reach.proofs.Chains.{pawn_kept, pawn_leads, piece_leads}
use Rattle.chess_reach.proofs.ways.go_on.Goals as goal

pub returns-then-not-is-clause-reached : goal.returns-then-not-is-clause-reached
returns-then-not-is-clause-reached c =
    piece_leads c.args.prey c.args.man c.args.before.now _ (sym c.is.ensures ∙ c.if-not-is.true) (λ s t ss st on reach. c.spread_pieces.ensures.reached s t ss st on
    (subst (λ k. reaches_as [] c.args.man.colour k s t ≡ true) (sym c.without_hops.ensures) reach))

pub returns-clause-kept : goal.returns-clause-kept
returns-clause-kept c j t small h =
    pawn_kept c.args.prey c.args.man c.args.before.now c.spread_pawns-pawns.result c.last_rank-last.result _ _ (sym c.is.ensures ∙ c.if-not-is.false) j t small
    c.spread_pieces-2.ensures.kept c.spread.ensures.kept h

pub returns-clause-reached : goal.returns-clause-reached
returns-clause-reached c =
    pawn_leads c.args.prey c.args.man c.args.before.now _ _ _ _ (sym c.is.ensures ∙ c.if-not-is.false) c.last_rank-last.type_inv c.last_rank-last.ensures
    c.spread_pawns-pawns.ensures.reached c.spread_pieces-2.ensures.reached c.spread.ensures.reached
