use Rattle.std.proofs.Common.{arith, rules, sym, ◌∙◌}
use Rattle.chess_reach.proofs.Planning.{both_near, king_near, none_near, quest_begun, usual_promotion}
use Rattle.chess_reach.proofs.planned_squares.planned_squares.Goals as goal

pub returns-then-near-eq0 : goal.returns-then-near-eq0
returns-then-near-eq0 c k ends low plan on =
    absurd (none_near _ _ k c.if-near-eq0.true on (king_near _ _ _ c.args.board.now _ _ _ _ k c.in-Some.from ends c.king_guard-king.result.chain c.other-colour.ensures plan
    (sym c.king_of.ensures ∙ c.in-Some.is) (search rules) (usual_promotion c.args.board.now _ c.may_promote_unfollowed.ensures c.if-may_promote_unfollowed.false)
    c.king_guard-king.ensures.way low))

pub returns-in-Some-planned_near : goal.returns-in-Some-planned_near
returns-in-Some-planned_near c k ends low plan on =
    let usual = usual_promotion c.args.board.now _ c.may_promote_unfollowed.ensures c.if-may_promote_unfollowed.false in
    let stands = sym c.king_of.ensures ∙ c.in-Some.is in
    let near = both_near _ _ k on (king_near _ _ _ c.args.board.now _ _ _ _ k c.in-Some.from ends c.king_guard-king.result.chain c.other-colour.ensures plan stands
    (search rules) usual c.king_guard-king.ensures.way low) in
    c.in-Some-planned_near.ensures k ends
    (quest_begun c.args.board.now c.args.mating _ c.args.theirs _ _ _ _ _ _ c.king_guard-king.result c.other-colour.ensures c.requires.size
    (omega (arith, c.if-theirs-ge-MOVES.false)) usual c.blocks_of-blockable.ensures c.king_guard-king.ensures.kind c.king_guard-king.ensures.from stands
    (search rules) c.king_guard-king.ensures.way) low plan near
